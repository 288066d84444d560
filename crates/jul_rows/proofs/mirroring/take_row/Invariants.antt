use Rattle.std.proofs.Common.{take}
use Rattle.jul_rows.specs.Mirrors.{HasTaken}
use Rattle.jul_rows.proofs.mirroring.take_row.Given as goal

abbrev pub invariant-loop-w : goal.invariant-loop-w
invariant-loop-w l = HasTaken l.u l.from (take l.w-index l.row) l.mirror l.fn.next l.next
