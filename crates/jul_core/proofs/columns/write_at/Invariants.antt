use Rattle.std.proofs.Common.{take}
use Rattle.jul_core.specs.Peels.{AreWritten}
use Rattle.jul_core.proofs.columns.write_at.Given as goal

abbrev pub invariant-loop-id : goal.invariant-loop-id
invariant-loop-id l = AreWritten (take l.id-index l.ids) l.number l.fn.column l.column
