use Rattle.std.proofs.Common.{◌≡◌, ◌+◌, map}
use Rattle.std.specs.List.Sorted.{IsStrictlyIncreasing}
use Rattle.jul_base.specs.Numbers.{below}
use Rattle.jul_text.specs.Tokens.{tokens}
use Rattle.jul_witness.specs.Roles.{said_source}
use Rattle.jul_witness.specs.Faults.{least_source}
use Rattle.jul_witness.specs.Scanning.{IsClean}
use Rattle.jul_witness.proofs.SourceLaws.{AreBelow}
use Rattle.jul_witness.proofs.heads.read_increasing.Given as goal

abbrev pub invariant-loop : goal.invariant-loop
invariant-loop l = record {
  clean : IsClean l.heading l.bytes l.place.at l.place.token;
  token : l.place.token ≡ 4 + l.counter;
  sources : l.sources.items ≡ map (said_source (tokens l.bytes)) (below l.counter);
  least : l.least ≡ least_source (tokens l.bytes) l.counter;
  increasing : IsStrictlyIncreasing l.sources.items;
  under : AreBelow l.sources.items l.least;
}
