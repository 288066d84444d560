use Rattle.std.proofs.Common.{get_or}
use Rattle.std.proofs.lemmas.List.{get_or_default}
use Rattle.jul_core.proofs.ColumnLaws.{written-more}
use Rattle.jul_core.proofs.columns.write_at.Goals as goal

pub loop-id-preserved : goal.loop-id-preserved
loop-id-preserved c =
    let id = get_or c.args.ids.now c.loop-id.id-index 0 in
    written-more c.args.ids.now c.loop-id.id-index id c.args.number c.args.column.now c.loop-id.column c.loop-id-test.true
    (get_or_default c.args.ids.now c.loop-id.id-index 0 id c.loop-id-test.true) (c.requires.within c.loop-id.id-index 0 c.loop-id-test.true) c.loop-id.invariant
