use Rattle.std.proofs.Common.{List, ℕ, [], ◌∷◌, length}
use Rattle.std.proofs.lemmas.Result.{on_ok_weaker, on_err_weaker}
use Rattle.jul_base.proofs.SendingLaws.{on_err_holds, sent_more, failed_more, failed_before}
use Rattle.jul_witness.specs.Texts.{sources_line, vertex_lines}
use Rattle.jul_witness.proofs.lines.put_distances.Goals as goal

-- the lines of the vertices
abbrev lines : List ℕ → List ℕ → List ℕ → List ℕ
lines first second third = vertex_lines (first ∷ second ∷ third ∷ []) (length first)

pub returns-in_err-put_sources-clause-err : goal.returns-in_err-put_sources-clause-err
returns-in_err-put_sources-clause-err g c =
    on_err_holds c.from_residual.result
    (failed_before _ _ c.args.block.now (sources_line c.args.sources.now) (lines c.args.first.now c.args.second.now c.args.third.now) c.in_err-put_sources.ensures.err)

pub returns-clause-ok : goal.returns-clause-ok
returns-clause-ok g c =
    on_ok_weaker c.put_triples.result
    (λ second. sent_more _ _ _ _ _ c.args.block.now (sources_line c.args.sources.now) (lines c.args.first.now c.args.second.now c.args.third.now) c.in_ok-put_sources.ensures.ok second)
    c.put_triples.ensures.ok

pub returns-clause-err : goal.returns-clause-err
returns-clause-err g c =
    on_err_weaker c.put_triples.result
    (λ failed. failed_more _ _ _ _ c.args.block.now (sources_line c.args.sources.now) (lines c.args.first.now c.args.second.now c.args.third.now) c.put_sources.ensures.faults c.in_ok-put_sources.ensures.ok failed)
    c.put_triples.ensures.err
