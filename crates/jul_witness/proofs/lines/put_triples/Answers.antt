use Rattle.std.proofs.Common.{ℕ, [], ◌∷◌, ◌<◌, length, arith}
use Rattle.jul_base.specs.Numbers.{below}
use Rattle.jul_base.proofs.SendingLaws.{on_err_holds, sent_piece, failed_piece, sent_pieces}
use Rattle.jul_witness.specs.Texts.{vertex_line}
use Rattle.jul_witness.proofs.TextLaws.{length-below, get_or-below}
use Rattle.jul_witness.proofs.lines.put_triples.Goals as goal

pub returns-in_err-put_triple-clause-err : goal.returns-in_err-put_triple-clause-err
returns-in_err-put_triple-clause-err g c =
    let n : ℕ = length c.args.first.now in
    let v : ℕ = c.loop-v.v in
    let lt : v < n = omega arith in
    on_err_holds c.from_residual.result
    (failed_piece (vertex_line (c.args.first.now ∷ c.args.second.now ∷ c.args.third.now ∷ [])) (below n) v v
    (g.S.Sink.state c.args.sink.now) (g.S.Sink.state c.loop-v.sink) (g.S.Sink.state c.put_triple.new.sink) c.loop-v.block c.args.block.now
    (omega (arith, length-below n)) (get_or-below n v lt) c.loop-v.invariant.faults c.loop-v.invariant.sent c.in_err-put_triple.ensures.err)

pub loop-v-preserved : goal.loop-v-preserved
loop-v-preserved g c =
    let n : ℕ = length c.args.first.now in
    let v : ℕ = c.loop-v.v in
    let lt : v < n = omega arith in
    record {
      sent = sent_piece (vertex_line (c.args.first.now ∷ c.args.second.now ∷ c.args.third.now ∷ [])) (below n) v v
          (g.S.Sink.state c.args.sink.now) (g.S.Sink.state c.loop-v.sink) (g.S.Sink.state c.put_triple.new.sink) c.loop-v.block c.put_triple.new.block c.args.block.now
          (omega (arith, length-below n)) (get_or-below n v lt) c.loop-v.invariant.sent c.in_ok-put_triple.ensures.ok;
      faults = omega (arith, c.loop-v.invariant.faults, c.put_triple.ensures.faults);
    }

pub returns-clause-ok : goal.returns-clause-ok
returns-clause-ok g c =
    let n : ℕ = length c.args.first.now in
    sent_pieces (vertex_line (c.args.first.now ∷ c.args.second.now ∷ c.args.third.now ∷ [])) (below n) c.loop-v.v
    (g.S.Sink.state c.args.sink.now) (g.S.Sink.state c.loop-v.sink) c.loop-v.block c.args.block.now
    (omega (arith, length-below n)) c.loop-v.invariant.sent
