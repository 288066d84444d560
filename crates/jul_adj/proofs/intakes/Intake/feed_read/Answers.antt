use Rattle.std.proofs.Common.{subst, sym, refl}
use Rattle.jul_text.specs.Numbers.{AreNumbers}
use Rattle.jul_adj.specs.Cutting.{IsReadAs}
use Rattle.jul_adj.specs.Intakes.{HasTaken}
use Rattle.jul_adj.proofs.IntakeLaws.{kept, numbers_taken}
use Rattle.jul_adj.proofs.intakes.Intake.feed_read.Goals as goal
use Rattle.jul_adj.proofs.intakes.Intake.feed_read.Goals.{in-Some+in_ok-take_values+else-branch, in_default}

pub returns-then-branch-clause-taken : goal.returns-then-branch-clause-taken
returns-then-branch-clause-taken c b h white =
    let cut = c.args.cut.now in
    let values = c.deref.result.now in
    let are : AreNumbers cut c.args.bound values = subst (AreNumbers cut c.args.bound) (sym c.deref.ensures.value) (subst (IsReadAs cut c.args.bound) c.in-Some.is c.requires.read) in
    numbers_taken b cut values c.args.bound c.args.self.now.feeder.fed c.args.self.now.reading _ are (c.pass.ensures.fed b h.fed white c.requires.white) (c.pass.ensures.marks b h.fed white c.requires.white) h.read
    (λ ws token marks r m have. c.in_ok-take_values.ensures.taken ws token marks r m have c.if-branch.true)

pub returns-clause-taken : goal.returns-clause-taken
returns-clause-taken c b h white =
    let before : HasTaken b c.match-read.self = elim c.match-read.branch [
      | in-Some+in_ok-take_values+else-branch w ↦ subst (HasTaken b) (sym w.self-is) (kept b c.args.self.now _ refl (w.in_ok-take_values.ensures.refused w.if-branch.false) h)
      | in_default w ↦ subst (HasTaken b) (sym w.self-is) h
    ] in
    c.feed_cut.ensures.taken b before white
