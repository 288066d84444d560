use Rattle.std.proofs.Common.{ℕ, List, [], ◌∷◌, ◌++◌, length}
use Rattle.std.proofs.lemmas.Result.{on_ok_weaker, on_err_weaker}
use Rattle.jul_base.proofs.SendingLaws.{on_err_holds}
use Rattle.jul_witness.specs.declared.forms.Form.TheVariants as forms
use Rattle.jul_witness.specs.Texts.{head_lines, sources_line, vertex_lines}
use Rattle.jul_witness.proofs.WritingLaws.{failed_head, failed_rest, written_all, failed_last}
use Rattle.jul_witness.proofs.texts.write_triples.Goals as goal

pub returns-in_err-put_head-clause-err : goal.returns-in_err-put_head-clause-err
returns-in_err-put_head-clause-err g c =
    let n : ℕ = length c.args.first.now in
    let rest : List ℕ = sources_line c.args.sources.now ++ vertex_lines (c.args.first.now ∷ c.args.second.now ∷ c.args.third.now ∷ []) n in
    on_err_holds c.from_residual.result (failed_head _ _ _ (head_lines forms.Distances n c.args.m) rest c.new-block.ensures c.in_err-put_head.ensures.err)

pub returns-in_err-put_distances-clause-err : goal.returns-in_err-put_distances-clause-err
returns-in_err-put_distances-clause-err g c =
    let n : ℕ = length c.args.first.now in
    let rest : List ℕ = sources_line c.args.sources.now ++ vertex_lines (c.args.first.now ∷ c.args.second.now ∷ c.args.third.now ∷ []) n in
    on_err_holds c.from_residual-in_err-put_distances.result
    (failed_rest _ _ _ _ c.put_head.new.block (head_lines forms.Distances n c.args.m) rest
    c.new-block.ensures c.put_head.ensures.faults c.in_ok-put_head.ensures.ok c.in_err-put_distances.ensures.err)

pub returns-clause-ok : goal.returns-clause-ok
returns-clause-ok g c =
    let n : ℕ = length c.args.first.now in
    let rest : List ℕ = sources_line c.args.sources.now ++ vertex_lines (c.args.first.now ∷ c.args.second.now ∷ c.args.third.now ∷ []) n in
    on_ok_weaker c.flush.result
    (λ last. written_all _ _ _ _ c.put_head.new.block (head_lines forms.Distances n c.args.m) rest
    c.new-block.ensures c.put_head.ensures.faults c.in_ok-put_head.ensures.ok _ _ c.in_ok-put_distances.ensures.ok last)
    c.flush.ensures.ok

pub returns-clause-err : goal.returns-clause-err
returns-clause-err g c =
    let n : ℕ = length c.args.first.now in
    let rest : List ℕ = sources_line c.args.sources.now ++ vertex_lines (c.args.first.now ∷ c.args.second.now ∷ c.args.third.now ∷ []) n in
    on_err_weaker c.flush.result
    (λ failed. failed_last _ _ _ _ c.put_head.new.block (head_lines forms.Distances n c.args.m) rest
    c.new-block.ensures c.put_head.ensures.faults c.in_ok-put_head.ensures.ok _ _ c.put_distances.ensures.faults c.in_ok-put_distances.ensures.ok failed)
    c.flush.ensures.err
