use Rattle.std.proofs.Common.{◌≡◌, ◌∙◌, sym, subst}
use Rattle.std.specs.Prelude.{IfOk}
use Rattle.jul_core.specs.PeelMoves.{move_of}
use Rattle.jul_subset.proofs.GroupLaws.{gathered}
use Rattle.jul_core.proofs.MovingLaws.{moves_flat}
use Rattle.jul_core.proofs.moving.moves_in_groups.Goals as goal

pub returns : goal.returns
returns g c =
    let places = c.args.buckets.now.places in
    subst (λ l. IfOk c.joined.result (λ moves. moves.items ≡ l))
    (gathered (move_of places c.args.bucket) c.args.counts.now c.args.team.now.chunk c.args.chunks _ _ _ _ c.in_ok-done.ensures.each_once c.requires.chunks.0 ∙ sym (moves_flat places c.args.bucket c.args.counts.now))
    c.joined.ensures
