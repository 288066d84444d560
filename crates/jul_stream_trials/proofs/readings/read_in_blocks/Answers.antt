use Rattle.std.proofs.Common.{Ok, Err, codes, subst}
use Rattle.jul_base.specs.MemoryShelves.{shelf_state}
use Rattle.jul_adj.specs.Streaming.{IsUnread}
use Rattle.jul_stream_trials.proofs.ReadingLaws.{streamed_said}
use Rattle.jul_stream_trials.proofs.readings.read_in_blocks.Goals as goal

pub returns-in-Ok : goal.returns-in-Ok
returns-in-Ok g c = streamed_said c.in_ok-shelf.shelf _ _ c.args.file.now c.args.limit (Ok c.in-Ok.graph) c.in_ok-shelf.ensures c.in-Ok.ensures.graph

pub returns-in-Err-Bad : goal.returns-in-Err-Bad
returns-in-Err-Bad g c = streamed_said c.in_ok-shelf.shelf _ _ c.args.file.now c.args.limit (Err c.in-Err-Bad.fault) c.in_ok-shelf.ensures (subst (IsUnread (shelf_state c.in_ok-shelf.shelf) (shelf_state c.read_stream.new.files) (codes "g") c.args.limit) c.in-Err-Bad.field-0-is c.in-Err-Bad.ensures.refused)
