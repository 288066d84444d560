use Rattle.std.proofs.Common.{◌≡◌, ◌+◌, sym, ℕ, List, Result, Ok, Err, length, inr, ◌∙◌, subst, arith}
use Rattle.jul_base.specs.declared.graphs.RawGraph.{RawGraph}
use Rattle.jul_text.specs.Tokens.{tokens}
use Rattle.jul_adj.specs.declared.faults.Fault.{Fault}
use Rattle.jul_adj.specs.declared.faults.ReadError.{ReadError}
use Rattle.jul_adj.specs.Reading.{read_tokens, Gives, Fails}
use Rattle.jul_adj.specs.Streaming.{IsStreamed}
use Rattle.jul_adj.proofs.LawfulLaws.{read_is_lawful}
use Rattle.jul_adj.proofs.StreamLaws.{IsStreaming, stream_end, stream_full, stream_more, said_at_end, unread, err_unread, opened_last}
use Rattle.jul_adj.proofs.streaming.read_stream.Goals as goal
use Rattle.jul_adj.proofs.streaming.read_stream.Given as given
use Rattle.jul_adj.proofs.streaming.read_stream.Goals.{After-finish}

-- the bytes that were read, of which nothing was left
abbrev taken : (g : given.Over) (c : After-finish g) → List ℕ
taken g c = c.loop-read.invariant.streaming.bytes

none : (g : given.Over) (c : After-finish g) → c.advance.new.self.ahead.count ≡ 0
none g c = sym c.last_count-count.ensures ∙ c.if-count-eq0.true

-- what they say, the file says
streamed_as : (g : given.Over) (c : After-finish g) (said : Result RawGraph Fault) → read_tokens (tokens (taken g c)) (length (taken g c)) ≡ said → IsStreamed (g.F.Shelf.state c.args.files.now) (g.F.Shelf.state c.advance.new.files) c.args.name.now c.args.limit said
streamed_as g c said is =
    stream_end _ _ _ c.args.limit c.loop-read.read c.loop-read.pipeline c.loop-read.invariant.streaming (g.F.Shelf.state c.advance.new.files) _ c.advance.new.self.ahead said
    c.loop-read-test.true (none g c) c.in_ok-advance.ensures.read is

gives : (g : given.Over) (c : After-finish g) → Gives c.finish.result (read_tokens (tokens (taken g c)) (length (taken g c)))
gives g c = said_at_end _ _ _ c.args.limit c.loop-read.read c.loop-read.pipeline c.loop-read.invariant.streaming c.advance.new.self c.finish.result (none g c) c.in_ok-advance.ensures.advanced c.finish.ensures

pub returns-in_err-finish-clause-refused : goal.returns-in_err-finish-clause-refused
returns-in_err-finish-clause-refused g c =
    let at = (goal.at.returns-in_err-finish-clause-refused g c).After-finish in
    let e : ReadError = c.in_err-finish.field-0.0 in
    let fails : Fails e (read_tokens (tokens (taken g at)) (length (taken g at))) = subst (λ r. Gives r (read_tokens (tokens (taken g at)) (length (taken g at)))) c.in_err-finish.was (gives g at) in
    err_unread _ _ c.args.name.now c.args.limit c.from_residual-in_err-finish.result e c.from_residual-in_err-finish.ensures.1
    (unread _ _ c.args.name.now c.args.limit e (read_tokens (tokens (taken g at)) (length (taken g at))) fails (λ fault is. streamed_as g at (Err fault) is)
    (inr (c.advance.ensures.left.kept ∙ opened_last _ _ c.args.name.now (taken g at) c.loop-read.invariant.streaming.loading)))

pub returns-then-count-eq0-clause-graph : goal.returns-then-count-eq0-clause-graph
returns-then-count-eq0-clause-graph g c =
    let at = (goal.at.returns-then-count-eq0-clause-graph g c).After-finish in
    streamed_as g at (Ok c.in_ok-finish.field-0) (subst (λ r. Gives r (read_tokens (tokens (taken g at)) (length (taken g at)))) c.in_ok-finish.was (gives g at))

pub returns-then-count-eq0-clause-lawful : goal.returns-then-count-eq0-clause-lawful
returns-then-count-eq0-clause-lawful g c =
    let at = (goal.at.returns-then-count-eq0-clause-lawful g c).After-finish in
    read_is_lawful (tokens (taken g at)) (length (taken g at)) c.in_ok-finish.field-0 (subst (λ r. Gives r (read_tokens (tokens (taken g at)) (length (taken g at)))) c.in_ok-finish.was (gives g at))

pub loop-read-preserved : goal.loop-read-preserved
loop-read-preserved g c = record {
  streaming =
      subst (λ n. IsStreaming (g.F.Shelf.state c.args.files.now) (g.F.Shelf.state c.advance.new.files) c.args.name.now (c.loop-read.read + n) c.advance.new.self) (sym c.last_count-count.ensures)
      (stream_more _ _ _ c.args.limit c.loop-read.read c.loop-read.pipeline c.loop-read.invariant.streaming (g.F.Shelf.state c.advance.new.files) _ c.advance.new.self c.in_ok-advance.ensures.read c.in_ok-advance.ensures.advanced);
  is_open = c.in_ok-advance.ensures.read.read.is_open;
  within = omega (arith, c.in_ok-advance.ensures.read.read.few, c.left.ensures.few, c.loop-read-test.true, c.last_count-count.ensures);
  blocks = c.in_ok-advance.ensures.advanced.blocks;
  count = omega (arith, c.in_ok-advance.ensures.advanced.count, c.loop-read.invariant.count, c.last_count-count.ensures);
  faults = omega (arith, c.advance.ensures.left.faults, c.loop-read.invariant.faults);
}

pub returns-clause-refused : goal.returns-clause-refused
returns-clause-refused g c =
    stream_full _ _ _ c.args.limit c.loop-read.read c.loop-read.pipeline c.loop-read.invariant.streaming (omega (arith, c.loop-read-test.false, c.loop-read.invariant.within))
