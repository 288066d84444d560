use Rattle.std.proofs.Common.{sym, subst}
use Rattle.jul_base.specs.Sources.{AreNamedSources}
use Rattle.jul_text.specs.Tokens.{tokens}
use Rattle.jul_witness.proofs.SourceLaws.{named_sources}
use Rattle.jul_witness.proofs.heads.read_sources.Goals as goal

pub returns-clause-named : goal.returns-clause-named
returns-clause-named c =
    subst AreNamedSources (sym c.from_vec.ensures)
    (named_sources (tokens c.args.bytes.now) c.in_ok-count.count c.in_ok-sources.sources.items c.in_ok-count.ensures.value
    c.in_ok-count.ensures.some c.in_ok-count.ensures.few c.in_ok-sources.ensures.sources c.in_ok-sources.ensures.increasing)
