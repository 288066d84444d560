use Rattle.std.proofs.Common.{◌≤◌, ◌<◌, ◌∙◌, sym, subst, refl, arith, length}
use Rattle.std.specs.Prelude.{All}
use Rattle.jul_words.specs.Seats.{Seat}
use Rattle.jul_words.specs.Stamps.{AllFirsts}
use Rattle.jul_subset.proofs.IncreasingLaws.{length_below}
use Rattle.jul_edge.specs.declared.functions.Direction.TheVariants.{Push}
use Rattle.jul_edge.specs.EdgeMaps.{HasStamped}
use Rattle.jul_subset.proofs.ApplicationLaws.{done_parts}
use Rattle.jul_edge.proofs.StampLaws.{noted_in, has_stamped, is_mapped}
use Rattle.jul_base.specs.Graph.{vertices}
use Rattle.jul_edge.proofs.pushes.push_list.Goals as goal

pub push_chunks-requires-clause-few : goal.push_chunks-requires-clause-few
push_chunks-requires-clause-few g c κs within =
    let m = c.requires.members in
    let most : length c.args.members.now ≤ vertices c.args.rows.now = length_below c.args.members.now (vertices c.args.rows.now) m.increasing m.within in
    omega (arith, most, m.few)

pub push_chunks-requires-clause-may : goal.push_chunks-requires-clause-may
push_chunks-requires-clause-may g c κs within =
    let laws = g.met.F.Token.Share g.world.𝓛 g.world.𝓜 g.world.𝓡 ((λ s x. x), (λ x. x), (λ x. x), λ x. x) in record {
      lawful = c.requires.lawful;
      members_in = c.requires.members.within;
      some_round = c.requires.stamps.some;
      own = g.F.Token.Share.home c.args.token;
      seat = c.args.stamp_seat.home;
      home_is = refl;
      own_parts = laws.home_has_parts _;
      words = c.requires.stamps.words;
      want = c.requires.want;
      apply = c.requires.apply;
    }

pub from_unordered-requires-clause-within : goal.from_unordered-requires-clause-within
from_unordered-requires-clause-within g c =
    subst (λ k. All (λ v. v < k) c.in_ok-token.noted.items) (sym c.n.ensures.count)
    (noted_in (g.F.EdgeFn.gives c.args.f.now) c.args.rows.now c.requires.lawful c.args.round c.args.members.now (g.F.EdgeFn.wanted c.args.f.now) _ _ _ _ _ c.in_ok-token.ensures.pushed)

pub returns-clause-made : goal.returns-clause-made
returns-clause-made g c =
    let laws = g.met.F.Token.Share g.world.𝓛 g.world.𝓜 g.world.𝓡 ((λ s x. x), (λ x. x), (λ x. x), λ x. x) in
    let marks : AllFirsts c.in_ok-token.hand.seat.home c.in_ok-token.hand.seat.log = subst (λ (s : Seat). AllFirsts s.home s.log) c.learn.ensures.same c.learn.ensures.settled in
    let mapped = is_mapped (g.F.EdgeFn.gives c.args.f.now) c.args.rows.now c.requires.lawful c.args.round c.args.members.now (g.F.EdgeFn.wanted c.args.f.now) _ _ _ _ _ c.in_ok-token.ensures.pushed _ c.requires.stamps c.in_ok-token.ensures.seat_home marks c.in_ok-subset.subset (c.in_ok-subset.ensures.n ∙ c.n.ensures.count) c.in_ok-subset.ensures.sparse c.in_ok-subset.ensures.members in record {
      mapped = mapped;
      parts = done_parts _ _ _ (laws.log_has_parts _) (laws.log_has_parts _) mapped.done mapped.applied.log_is;
      root = c.in_ok-token.ensures.root.0;
      none_out = c.in_ok-token.ensures.none_out.0;
      home = c.in_ok-token.ensures.home;
    }

pub returns-clause-stamped : goal.returns-clause-stamped
returns-clause-stamped g c =
    subst (HasStamped Push c.args.round c.args.stamp_seat) (sym c.learn.ensures.same)
    (has_stamped (g.F.EdgeFn.gives c.args.f.now) c.args.rows.now c.requires.lawful c.args.round c.args.members.now (g.F.EdgeFn.wanted c.args.f.now) _ _ _ _ _ c.in_ok-token.ensures.pushed c.in_ok-token.ensures.seat_home (c.in_ok-token.ensures.root.1 ∙ sym c.requires.stamps.alone.0) (c.in_ok-token.ensures.none_out.1 ∙ sym c.requires.stamps.alone.1))
