use Rattle.std.proofs.Common.{◌≡◌, ◌∙◌, ◌<◌, arith, ap, sym, subst, map, All, false, nat_lt}
use Rattle.std.proofs.lemmas.List.{get_or_read}
use Rattle.jul_base.specs.Times.{times}
use Rattle.jul_pool.specs.Workers.{CanWork}
use Rattle.jul_pool.proofs.WorkLaws.{worked_none, worked_then, can_still_work}
use Rattle.jul_pool.proofs.LeftoverLaws.{left_none, left_had, left_took, none_there, some_there}
use Rattle.jul_pool.proofs.leftovers.run_rest.Goals as goal

pub marked-requires : goal.marked-requires
marked-requires g c = subst (All (λ p. p.0 < c.args.round.now.board.now.chunks)) (sym c.as_slice.ensures.value) c.requires.small

pub loop-chunk-init : goal.loop-chunk-init
loop-chunk-init g c = let share = g.J.Token.Share in record {
  worked = worked_none share.log share.home share.is_root share.out (g.J.Job.gives c.args.round.now.job.now) c.args.round.now.board.now.chunks _;
  left = left_none _;
}

pub loop-chunk-preserved-then-index : goal.loop-chunk-preserved-then-index
loop-chunk-preserved-then-index g c =
    let was = c.loop-chunk.invariant in
    let list : map (λ p. p.0) c.as_slice.result.now ≡ c.args.lead.now.seat.me.0.chunks = ap (map (λ p. p.0)) c.as_slice.ensures.value ∙ sym c.requires.listed in
    let read : c.index.result.now ≡ nat_lt 0 (times c.loop-chunk.chunk (map (λ p. p.0) c.as_slice.result.now)) = get_or_read c.in_ok-has_result.has_result.items c.loop-chunk.chunk _ (omega (arith, c.in_ok-has_result.ensures.len)) c.index.ensures false ∙ c.in_ok-has_result.ensures.marks c.loop-chunk.chunk (omega arith) in
    record {
      worked = was.worked;
      left = left_had c.loop-chunk.chunk _ _ was.left (subst (λ l. 0 < times c.loop-chunk.chunk l) list (some_there _ (sym c.if-index.true ∙ read)));
    }

pub loop-chunk-preserved : goal.loop-chunk-preserved
loop-chunk-preserved g c =
    let share = g.J.Token.Share in
    let was = c.loop-chunk.invariant in
    let made = c.in_ok-take_and_run.ensures in
    let list : map (λ p. p.0) c.as_slice.result.now ≡ c.args.lead.now.seat.me.0.chunks = ap (map (λ p. p.0)) c.as_slice.ensures.value ∙ sym c.requires.listed in
    let read : c.index.result.now ≡ nat_lt 0 (times c.loop-chunk.chunk (map (λ p. p.0) c.as_slice.result.now)) = get_or_read c.in_ok-has_result.has_result.items c.loop-chunk.chunk _ (omega (arith, c.in_ok-has_result.ensures.len)) c.index.ensures false ∙ c.in_ok-has_result.ensures.marks c.loop-chunk.chunk (omega arith) in
    let fresh : times c.loop-chunk.chunk c.loop-chunk.lead.seat.me.0.chunks ≡ 0 = was.left.above c.loop-chunk.chunk (omega arith) ∙ (ap (times c.loop-chunk.chunk) (sym list) ∙ none_there _ (sym c.if-index.false ∙ read)) in
    record {
      worked = worked_then share.log share.home share.is_root share.out (g.J.Job.gives c.args.round.now.job.now) c.args.round.now.board.now.chunks _ c.loop-chunk.lead c.take_and_run.new.me was.worked made.worked;
      left = left_took c.loop-chunk.chunk _ _ _ was.left (made.alone (was.worked.seat_root ∙ c.requires.root) (was.worked.seats_out ∙ c.requires.none_out) c.loop-chunk-test.true fresh) made.others;
    }

pub take_and_run-requires-clause-able : goal.take_and_run-requires-clause-able
take_and_run-requires-clause-able g c κs h =
    let share = g.J.Token.Share in
    let able : CanWork share.home g.J.Job.can_run c.args.round.now c.args.lead.now = record { table_is = c.requires.table; live = omega (arith, c.requires.root); condition = c.requires.condition } in
    can_still_work share.log share.home share.is_root share.out (g.J.Job.gives c.args.round.now.job.now) g.J.Job.can_run c.args.round.now c.args.lead.now c.loop-chunk.lead able c.loop-chunk.invariant.worked
