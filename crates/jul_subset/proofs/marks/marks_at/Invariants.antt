use Rattle.std.proofs.Common.{◌≡◌, take, length}
use Rattle.jul_subset.proofs.MarkLaws.{SetFor}
use Rattle.jul_subset.proofs.marks.marks_at.Given as goal

abbrev pub invariant-loop-id : goal.invariant-loop-id
invariant-loop-id l = record {
  len : length l.marks.items ≡ l.n;
  set : SetFor l.marks.items (take l.id-index l.ids);
}
