use Rattle.std.proofs.Common.{◌∙◌, [], ◌∷◌, ap, arith, IfSome, subst}
use Rattle.std.proofs.lemmas.List.Elements.{All-append, All-pop}
use Rattle.crossbeam_deque.specs.Handles.{worker_view}
use Rattle.jul_pool.specs.declared.deques.Hand.{Hand}
use Rattle.jul_pool.specs.Deques.{MayPush}
use Rattle.jul_pool.specs.Workers.{IsLent}
use Rattle.jul_pool.proofs.RunLaws.{All-one}
use Rattle.jul_pool.proofs.lending.lend.Goals as goal

pub loop-hand-preserved : goal.loop-hand-preserved
loop-hand-preserved g c =
    let was = c.loop-hand.invariant in
    let seat = c.split-mine.ensures in
    let token = c.split-part.ensures in
    let Q = λ (h : Hand). MayPush h.next (worker_view h.deque) in
    let popped = All-pop Q c.loop-hand.hands.items c.pop.new.self.items c.pop.result c.pop.ensures.items was.dealt in
    let hand : Q c.in-Some.hand = subst (λ r. IfSome r Q) c.in-Some.is popped.1 in
    let P = IsLent g.J.Token.Share.log g.J.Token.Share.home g.J.Token.Share.is_root c.args.round.now (g.J.Token.Share.home c.args.token.now) in record {
      table = seat.table.0 ∙ was.table;
      root_seat = ap (λ p. p.0.root) seat.root ∙ was.root_seat;
      seats_out = ap (λ p. p.0.out) seat.root ∙ omega (arith, c.in_ok-push.ensures.len, was.seats_out);
      none_taken = ap (λ p. p.0.chunks) seat.root ∙ was.none_taken;
      root = token.root;
      out = token.out ∙ omega (arith, c.in_ok-push.ensures.len, was.out);
      log = token.log ∙ was.log;
      home = token.home ∙ was.home;
      dealt = popped.0;
      count = omega (arith, c.in_ok-push.ensures.len, was.count, c.in-Some.ensures.len);
      lent = rw c.in_ok-push.ensures.items
          (All-append P c.loop-hand.lent.items (_ ∷ []) was.lent
          (All-one P _ (record {
            table_is = seat.table.1 ∙ was.table;
            seat_is = seat.part;
            log_is = token.empty;
            home_is = token.kin ∙ was.home;
            part = token.part;
            rest = hand;
          })));
    }
