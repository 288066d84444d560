use Rattle.std.proofs.Common.{ℕ, List, [], ◌∷◌, length}
use Rattle.std.proofs.lemmas.Result.{on_err_weaker}
use Rattle.jul_base.proofs.SendingLaws.{on_err_holds}
use Rattle.jul_witness.specs.Texts.{head_lines, vertex_lines}
use Rattle.jul_witness.proofs.WritingLaws.{failed_rest, failed_last}
use Rattle.jul_witness.proofs.texts.write_pairs.Goals as goal

pub returns-in_err-put_pairs-clause-err : goal.returns-in_err-put_pairs-clause-err
returns-in_err-put_pairs-clause-err g c =
    let n : ℕ = length c.args.first.now in
    let lines : List ℕ = vertex_lines (c.args.first.now ∷ c.args.second.now ∷ []) n in
    on_err_holds c.from_residual-in_err-put_pairs.result
    (failed_rest _ _ _ _ c.put_head.new.block (head_lines c.args.form n c.args.m) lines
    c.new-block.ensures c.put_head.ensures.faults c.in_ok-put_head.ensures.ok c.in_err-put_pairs.ensures.err)

pub returns-clause-err : goal.returns-clause-err
returns-clause-err g c =
    let n : ℕ = length c.args.first.now in
    let lines : List ℕ = vertex_lines (c.args.first.now ∷ c.args.second.now ∷ []) n in
    on_err_weaker c.flush.result
    (λ failed. failed_last _ _ _ _ c.put_head.new.block (head_lines c.args.form n c.args.m) lines
    c.new-block.ensures c.put_head.ensures.faults c.in_ok-put_head.ensures.ok _ _ c.put_pairs.ensures.faults c.in_ok-put_pairs.ensures.ok failed)
    c.flush.ensures.err
