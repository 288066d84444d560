use Rattle.std.proofs.Common.{Ok, ap, sym, ◌∙◌}
use Rattle.jul_base.specs.declared.limits.TheConstants.{MAX_BYTES}
use Rattle.jul_witness.specs.Reading.{reads_witness}
use Rattle.jul_cmd.proofs.VerdictLaws.{at_err}
use Rattle.jul_cmd.proofs.FileLaws.{loaded_witness, witness_unread}
use Rattle.jul_cmd.proofs.loading.load_witness.Goals as goal

pub returns-in_err-read_witness-clause-refused : goal.returns-in_err-read_witness-clause-refused
returns-in_err-read_witness-clause-refused g c =
    at_err _ c.from_residual-in_err-read_witness.result _ c.from_residual-in_err-read_witness.ensures.1
    (witness_unread _ _ c.args.name.now c.as_slice.result.now c.in_ok-bytes.bytes.items _ c.as_slice.ensures.value c.in_ok-bytes.ensures.ok c.in_err-read_witness.ensures.exact)

pub returns-clause-witness : goal.returns-clause-witness
returns-clause-witness g c =
    loaded_witness _ _ c.args.name.now c.in_ok-bytes.bytes.items (Ok c.in_ok-read_witness.field-0) c.in_ok-bytes.ensures.ok
    (ap (λ b. reads_witness b MAX_BYTES) (sym c.as_slice.ensures.value) ∙ c.in_ok-read_witness.ensures.exact)
