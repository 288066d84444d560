use Rattle.std.proofs.Common.{◌≡◌, sym, subst}
use Rattle.std.specs.Prelude.{OnOk}
use Rattle.jul_core.proofs.MovingLaws.{moves_flat}
use Rattle.jul_core.proofs.moving.moves_down.Goals as goal

pub returns : goal.returns
returns g c =
    subst (λ l. OnOk c.moves_among.result (c.moves_among.new.moves.items ≡ l))
    (sym (moves_flat c.args.buckets.now.places c.args.bucket c.args.counts.now)) c.moves_among.ensures
