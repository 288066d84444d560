use Rattle.std.proofs.Common.{subst, sym, refl}
use Rattle.jul_text.specs.Numbers.{AreNumbers}
use Rattle.jul_adj.specs.Intakes.{HasTaken}
use Rattle.jul_adj.proofs.IntakeLaws.{kept, numbers_taken}
use Rattle.jul_adj.proofs.intakes.Intake.feed_cut.Goals as goal
use Rattle.jul_adj.proofs.intakes.Intake.feed_cut.Goals.{in-Some+in_ok-read_numbers+else-branch, else-branch-via-then-branch+in_ok-take_values+else-branch-2, else-branch-via-else-branch, in_default}

pub returns-then-branch-2-clause-taken : goal.returns-then-branch-2-clause-taken
returns-then-branch-2-clause-taken c b h white =
    let cut = c.args.cut.now in
    let values = c.deref.result.now in
    let are : AreNumbers cut c.in-Some.bound values = subst (AreNumbers cut c.in-Some.bound) (sym c.deref.ensures.value) (c.in_ok-read_numbers.ensures c.if-branch.true) in
    numbers_taken b cut values c.in-Some.bound c.args.self.now.feeder.fed c.args.self.now.reading _ are (c.pass.ensures.fed b h.fed white c.requires.white) (c.pass.ensures.marks b h.fed white c.requires.white) h.read
    (λ ws token marks r m have. c.in_ok-take_values.ensures.taken ws token marks r m have c.if-branch-2.true)

pub returns-clause-taken : goal.returns-clause-taken
returns-clause-taken c b h white =
    let before : HasTaken b c.match-bound.self = elim c.match-bound.branch [
      | in-Some+in_ok-read_numbers+else-branch w ↦ subst (HasTaken b) (sym w.self-is) (elim w.else-branch.branch [
        | else-branch-via-then-branch+in_ok-take_values+else-branch-2 w' ↦ subst (HasTaken b) (sym w'.self-is) (kept b c.args.self.now _ refl (w'.in_ok-take_values.ensures.refused w'.if-branch-2.false) h)
        | else-branch-via-else-branch w' ↦ subst (HasTaken b) (sym w'.self-is) (kept b c.args.self.now _ refl refl h)
      ])
      | in_default w ↦ subst (HasTaken b) (sym w.self-is) h
    ] in
    c.feed.ensures.taken b before
