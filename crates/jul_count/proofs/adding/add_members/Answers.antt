use Rattle.std.proofs.Common.{◌≡◌, [], ◌∷◌, refl}
use Rattle.jul_count.proofs.AddingLaws.{added_alone}
use Rattle.jul_count.proofs.adding.add_members.Goals as goal

pub returns : goal.returns
returns c =
    let may = c.requires.may in
    let same = c.in_ok-push_members.ensures.same in
    let home : c.push_members.new.state.seat.home ≡ c.args.hand.seat.home = (let is = same.home_is in cc) in
    record {
      added = added_alone c.args.rows.now may.lawful c.args.members.now may.members_in 0 (λ hand. hand.seat.log ∷ []) c.args.hand c.push_members.new.state c.args.hand.seat c.push_members.new.state.seat
          c.clear.new.self.items c.push_members.new.noted.items c.in_ok-push_members.ensures.pushed c.clear.ensures.items refl refl home same.root_is same.out_is;
    }
