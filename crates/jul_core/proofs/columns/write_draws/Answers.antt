use Rattle.jul_core.proofs.ColumnLaws.{ids_in, one_more}
use Rattle.jul_core.proofs.columns.write_draws.Goals as goal

pub write_at-requires : goal.write_at-requires
write_at-requires c = record {
  within = ids_in c.args.rows.now c.n.ensures.lawful c.args.draws.now c.requires.draws c.loop-number.number c.index-draws-number.result c.loop-number-test.true c.index-draws-number.is
      c.as_slice-ids.result.now c.as_slice-ids.ensures c.loop-number.level c.loop-number.invariant.level_size;
}

pub write_at-requires-in-loop-number : goal.write_at-requires-in-loop-number
write_at-requires-in-loop-number c = record {
  within = ids_in c.args.rows.now c.n.ensures.lawful c.args.draws.now c.requires.draws c.loop-number.number c.index-draws-number.result c.loop-number-test.true c.index-draws-number.is
      c.as_slice-ids.result.now c.as_slice-ids.ensures c.loop-number.core c.loop-number.invariant.core_size;
}

pub loop-number-preserved : goal.loop-number-preserved
loop-number-preserved c =
    one_more c.args.rows.now c.n.ensures.lawful c.args.draws.now c.requires.draws c.loop-number.number c.index-draws-number.result c.loop-number-test.true c.index-draws-number.is
    c.as_slice-ids.result.now c.as_slice-ids.ensures (record { core = c.loop-number.core; level = c.loop-number.level }) (record { core = c.write_at-in-loop-number.new.column; level = c.write_at.new.column })
    c.loop-number.invariant c.write_at.ensures c.write_at-in-loop-number.ensures
