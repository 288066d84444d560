use Rattle.std.proofs.Common.{◌≡◌, ◌∙◌, sym}
use Rattle.jul_count.proofs.AddingLaws.{added_all}
use Rattle.jul_count.proofs.adding.add_chunks.Goals as goal

pub returns : goal.returns
returns g c =
    let may = c.requires.may in
    let ran = c.in_ok-ran.ensures in
    let home : c.in_ok-ran.ran.token.seat.home ≡ c.args.hand.seat.home = (let same = ran.home in cc) in
    record {
      added = added_all c.args.rows.now may.lawful c.args.members.now may.members_in c.args.team.now.chunk c.args.chunks _ _ _ _ _
          ran.each_once c.requires.chunks.0 home (ran.root ∙ sym c.requires.alone.0) (ran.none_out ∙ sym c.requires.alone.1) c.in_ok-noted.ensures;
    }
