use Rattle.std.proofs.Common.{◌≡◌, ◌+◌, ◌*◌}
use Rattle.jul_text.specs.Tokens.{tokens}
use Rattle.jul_witness.specs.Roles.{front}
use Rattle.jul_witness.specs.Reading.{column_of}
use Rattle.jul_witness.specs.Scanning.{IsClean}
use Rattle.jul_witness.proofs.columns.read_pairs.Given as goal

abbrev pub invariant-loop : goal.invariant-loop
invariant-loop l = record {
  clean : IsClean l.heading l.bytes l.place.at l.place.token;
  token : l.place.token ≡ front l.heading (tokens l.bytes) + 2 * l.counter;
  first : l.firsts.items ≡ column_of l.heading (tokens l.bytes) l.counter 0;
  second : l.seconds.items ≡ column_of l.heading (tokens l.bytes) l.counter 1;
}
