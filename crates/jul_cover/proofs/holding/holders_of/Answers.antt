use Rattle.std.proofs.Common.{rules, subst}
use Rattle.jul_base.specs.declared.graphs.RawGraph.{RawGraph}
use Rattle.jul_base.specs.Graph.{IsLawful}
use Rattle.jul_base.specs.InRows.{IsFlip}
use Rattle.jul_cover.proofs.HolderLaws.{flipped_holders}
use Rattle.jul_cover.proofs.holding.holders_of.Goals as goal

pub returns : goal.returns
returns c =
    let lawful : IsLawful c.in_ok-graph.graph = search rules in
    flipped_holders c.args.sets.now c.in_ok-graph.graph lawful c.in_ok-graph.ensures c.in_ok-flip.field-0
    (subst (λ (g : RawGraph). IsFlip g c.in_ok-flip.field-0) c.of.ensures.graph c.in_ok-flip.ensures.flip)
