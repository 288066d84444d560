use Rattle.std.proofs.Common.{◌+◌, arith, ◌∙◌, sym, subst}
use Rattle.jul_reach.specs.Searching.{IsSearching}
use Rattle.jul_base.proofs.ListLaws.{written}
use Rattle.jul_reach.proofs.SearchLaws.{begun_search, hit_unmarked, searched_on, ended}
use Rattle.jul_reach.proofs.reaching.search.Goals as goal

pub rounds-init : goal.rounds-init
rounds-init g c =
    begun_search c.args.rows.now c.args.source c.args.stamps.now c.args.seat _ _ _ _ _ (c.in_ok-reached.ensures.items_if_clones_equal (λ y e. e)) c.n.ensures.count c.n-2.ensures.count c.in_ok-vec.ensures.items
    c.from_increasing-frontier.ensures.subset c.requires.vertex c.requires.stamps

pub mark_all-requires-clause-unmarked : goal.mark_all-requires-clause-unmarked
mark_all-requires-clause-unmarked g c =
    hit_unmarked c.args.rows.now c.n.ensures.lawful c.args.source c.args.stamps.now c.rounds.reached.items _ _ c.rounds.frontier _ _ _ _ _ _ _ _ (λ a answer added given. given.0)
    c.as_slice.ensures.value c.deref_mut.ensures.value (c.as_slice-in-rounds.ensures.value ∙ c.in_ok-ids.ensures) c.rounds.invariant c.in_ok-out.ensures.made.mapped

pub rounds-preserved : goal.rounds-preserved
rounds-preserved g c =
    subst (λ m. IsSearching c.args.rows.now c.args.source c.args.stamps.now m c.in_ok-out.out.subset c.in_ok-out.out.stamp_seat (c.rounds.round + 1))
    (sym (written c.mark_all.new.marks c.rounds.reached.items c.rounds.reached.len (omega (arith, c.mark_all.auto.marks, c.deref_mut.ensures.len))))
    (searched_on c.args.rows.now c.n.ensures.lawful c.args.source c.args.stamps.now c.rounds.reached.items _ _ _ c.rounds.frontier _ _ _ _ _ _ _ _ _ (λ a answer added given. given.0)
    c.as_slice.ensures.value c.deref_mut.ensures.value (c.as_slice-in-rounds.ensures.value ∙ c.in_ok-ids.ensures) c.mark_all.auto.marks
    c.rounds.invariant (omega (arith, c.rounds-test.true, c.len.ensures)) c.in_ok-out.ensures.made.mapped c.in_ok-out.ensures.stamped
    (record { marked = c.mark_all.ensures.marked; fewer = c.mark_all.ensures.fewer }))

pub returns-clause-exact : goal.returns-clause-exact
returns-clause-exact g c = ended c.args.rows.now c.args.source c.rounds.reached.items c.rounds.frontier.members (omega (arith, c.rounds-test.false, c.len.ensures)) c.rounds.invariant.reaching
