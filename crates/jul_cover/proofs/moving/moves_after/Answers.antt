use Rattle.std.proofs.Common.{◌≡◌, ◌*◌, ◌≤◌, subst, length}
use Rattle.std.specs.Prelude.{IfOk}
use Rattle.std.proofs.lemmas.Grind.{div_ceil_times}
use Rattle.jul_cover.specs.PackedSets.{pack_at}
use Rattle.jul_cover.specs.CoverMoves.{move_of}
use Rattle.jul_subset.proofs.GroupLaws.{gathered}
use Rattle.jul_cover.proofs.moving.moves_after.Goals as goal

pub returns : goal.returns
returns g c =
    let enough : length c.args.drawn.now ≤ c.div_ceil-chunks.result * c.args.team.now.chunk = rw c.div_ceil-chunks.ensures (div_ceil_times (length c.args.drawn.now) c.args.team.now.chunk c.args.team.now.some_members).0 in
    subst (λ l. IfOk c.joined.result (λ moves. moves.items ≡ l))
    (gathered (move_of (pack_at c.args.packs.now) c.args.columns.now.round.items) c.args.drawn.now c.args.team.now.chunk c.div_ceil-chunks.result _ _ _ _ c.in_ok-done.ensures.each_once enough)
    c.joined.ensures
