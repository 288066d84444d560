use Rattle.std.proofs.Common.{sym, arith}
use Rattle.jul_base.proofs.SendingLaws.{on_err_holds, sent_piece, failed_piece, sent_pieces}
use Rattle.jul_witness.specs.Texts.{spaced_value}
use Rattle.jul_witness.proofs.lines.put_each.Goals as goal

pub returns-in_err-put_spaced-clause-err : goal.returns-in_err-put_spaced-clause-err
returns-in_err-put_spaced-clause-err g c =
    on_err_holds c.from_residual.result
    (failed_piece spaced_value c.args.numbers.now c.loop-number.number-index c.from.result _ _ _ c.loop-number.block c.args.block.now
    (omega arith) (sym c.from.ensures) c.loop-number.invariant.faults c.loop-number.invariant.sent c.in_err-put_spaced.ensures.err)

pub loop-number-preserved : goal.loop-number-preserved
loop-number-preserved g c = record {
  sent = sent_piece spaced_value c.args.numbers.now c.loop-number.number-index c.from.result _ _ _ c.loop-number.block c.put_spaced.new.block c.args.block.now
      (omega arith) (sym c.from.ensures) c.loop-number.invariant.sent c.in_ok-put_spaced.ensures.ok;
  faults = omega (arith, c.put_spaced.ensures.faults, c.loop-number.invariant.faults);
}

pub returns-clause-ok : goal.returns-clause-ok
returns-clause-ok g c = sent_pieces spaced_value c.args.numbers.now c.loop-number.number-index _ _ c.loop-number.block c.args.block.now (omega arith) c.loop-number.invariant.sent
