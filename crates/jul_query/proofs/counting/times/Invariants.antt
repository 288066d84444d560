use Rattle.std.proofs.Common.{◌≡◌, ◌≤◌, ◌+◌, false, map, drop}
use Rattle.std.specs.String.{string_bytes}
use Rattle.jul_query.specs.Counting.{times}
use Rattle.jul_query.proofs.counting.times.Given as goal

abbrev pub invariant-loop-word : goal.invariant-loop-word
invariant-loop-word l = record {
  few : l.count ≤ l.word-index;
  rest : l.count + times l.name l.is_skipped (map string_bytes (drop l.word-index l.words)) ≡ times l.name false (map string_bytes l.words);
}
