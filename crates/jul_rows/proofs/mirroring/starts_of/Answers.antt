use Rattle.std.proofs.Common.{arith}
use Rattle.jul_rows.proofs.MirrorLaws.{start_rises}
use Rattle.jul_rows.proofs.mirroring.starts_of.Goals as goal

pub overflow_sub-first_place : goal.overflow_sub-first_place
overflow_sub-first_place c = omega (
  arith,
  start_rises c.args.rows.now c.raw.ensures.lawful c.args.from c.loop-v.v (omega arith) (omega (arith, c.loop-v-test.true, c.requires.within)),
  c.first_place-first.ensures.place,
  c.first_place.ensures.place,
)
