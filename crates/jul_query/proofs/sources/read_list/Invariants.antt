use Rattle.std.proofs.Common.{◌≡◌, ◌≤◌, [], length, drop}
use Rattle.std.specs.List.Sorted.{IsStrictlyIncreasing}
use Rattle.jul_query.specs.Words.{parts_of}
use Rattle.jul_query.proofs.SourceLaws.{onward}
use Rattle.jul_query.proofs.sources.read_list.Given as goal

abbrev pub invariant-loop-part : goal.invariant-loop-part
invariant-loop-part l = record {
  count : l.count ≡ length l.yielded;
  few : l.count ≤ 1024;
  increasing : IsStrictlyIncreasing l.sources.items;
  rest : onward l.sources.items (drop (length l.yielded) (parts_of l.text)) ≡ onward [] (parts_of l.text);
}
