use Rattle.std.proofs.Common.{List, ℕ, [], ◌∷◌, ◌++◌, ◌≡◌, ◌∙◌, ap, subst}
use Rattle.std.proofs.lemmas.Result.{on_ok_weaker, on_err_weaker}
use Rattle.jul_base.specs.Sinks.{SinkState, FailedWriting, IsSent}
use Rattle.jul_base.proofs.SendingLaws.{sent_more, failed_more}
use Rattle.jul_text.specs.Lines.{line_of}
use Rattle.jul_witness.specs.Forms.{word_of}
use Rattle.jul_witness.specs.declared.forms.Form.{Form}
use Rattle.jul_witness.specs.Texts.{values_line, head_lines}
use Rattle.jul_witness.proofs.lines.put_head.Goals as goal

-- the lines that were put
lines : (form : Form) (first : List ℕ) (n m m' : ℕ) → first ≡ line_of (word_of form) → m' ≡ m → first ++ values_line (n ∷ m' ∷ []) ≡ head_lines form n m
lines form first n m m' a b =
    ap (λ (word : List ℕ). word ++ values_line (n ∷ m' ∷ [])) a
    ∙ ap (λ (k : ℕ). line_of (word_of form) ++ values_line (n ∷ k ∷ [])) b

pub returns-clause-ok : goal.returns-clause-ok
returns-clause-ok g c =
    let start : SinkState = g.S.Sink.state c.args.sink.now in
    let end : SinkState = g.S.Sink.state c.put_pair.new.sink in
    on_ok_weaker c.put_pair.result
    (λ second. subst (λ (text : List ℕ). IsSent start end c.put_pair.new.block (c.args.block.now ++ text)) (lines c.args.form c.first_line.result.now c.args.n c.args.m c.from.result c.first_line.ensures c.from.ensures)
    (sent_more _ _ _ _ _ c.args.block.now c.first_line.result.now (values_line (c.args.n ∷ c.from.result ∷ [])) c.in_ok-put.ensures.ok second))
    c.put_pair.ensures.ok

pub returns-clause-err : goal.returns-clause-err
returns-clause-err g c =
    let start : SinkState = g.S.Sink.state c.args.sink.now in
    let end : SinkState = g.S.Sink.state c.put_pair.new.sink in
    on_err_weaker c.put_pair.result
    (λ failed. subst (λ (text : List ℕ). FailedWriting start end (c.args.block.now ++ text)) (lines c.args.form c.first_line.result.now c.args.n c.args.m c.from.result c.first_line.ensures c.from.ensures)
    (failed_more _ _ _ _ c.args.block.now c.first_line.result.now (values_line (c.args.n ∷ c.from.result ∷ [])) c.put.ensures.faults c.in_ok-put.ensures.ok failed))
    c.put_pair.ensures.err
