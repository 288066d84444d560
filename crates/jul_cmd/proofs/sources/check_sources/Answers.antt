use Rattle.std.proofs.Common.{sym, ap, ◌∙◌, add-one, arith, drop}
use Rattle.std.proofs.lemmas.List.{drop_all}
use Rattle.jul_cmd.specs.Suited.{refusal_of_sources}
use Rattle.jul_cmd.proofs.SourceLaws.{source_inside, source_outside}
use Rattle.jul_cmd.proofs.sources.check_sources.Goals as goal

pub returns-then-source-n-clause-outside : goal.returns-then-source-n-clause-outside
returns-then-source-n-clause-outside c =
    sym c.loop-source.invariant ∙ source_outside c.args.n c.args.sources.now c.loop-source.source-index c.loop-source-test.true c.if-source-n.true

pub loop-source-preserved : goal.loop-source-preserved
loop-source-preserved c =
    ap (λ i. refusal_of_sources c.args.n (drop i c.args.sources.now)) (add-one c.loop-source.source-index) ∙
    sym (source_inside c.args.n c.args.sources.now c.loop-source.source-index c.loop-source-test.true c.if-source-n.false) ∙ c.loop-source.invariant

pub returns-clause-inside : goal.returns-clause-inside
returns-clause-inside c = sym c.loop-source.invariant ∙ ap (refusal_of_sources c.args.n) (drop_all c.loop-source.source-index c.args.sources.now (omega (arith, c.loop-source-test.false)))
