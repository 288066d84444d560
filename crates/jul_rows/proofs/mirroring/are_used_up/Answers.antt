use Rattle.std.proofs.Common.{rules, ◌+◌, ◌-◌, ◌≤◌, length, arith}
use Rattle.jul_rows.proofs.MirrorLaws.{start_before_end, end_in_mirror}
use Rattle.jul_rows.proofs.mirroring.are_used_up.Goals as goal

pub overflow_sub-end : goal.overflow_sub-end
overflow_sub-end c = omega (
  arith,
  start_before_end c.args.rows.now c.n.ensures.lawful c.args.from (c.args.from + c.loop-k.k) (omega arith) (omega (arith, c.loop-k-test.true, c.requires.size, c.requires.within)),
  c.first_place-first.ensures.place,
  c.end_place.ensures.place,
)

pub slice_bounds-are_above-end : goal.slice_bounds-are_above-end
slice_bounds-are_above-end c =
    let within : c.end_place.result - c.first_place-first.result ≤ length c.args.mirror.now = omega (
      arith,
      end_in_mirror c.args.rows.now c.n.ensures.lawful c.args.from c.args.to c.args.mirror.now c.requires.mirror (c.args.from + c.loop-k.k) (omega (arith, c.loop-k-test.true, c.requires.size)),
      c.first_place-first.ensures.place,
      c.end_place.ensures.place,
    ) in
    search rules
