use Rattle.std.proofs.Common.{◌≡◌, ◌∙◌, ap, sym, subst, refl, ℕ, Bool, true, false, ◌++◌}
use Rattle.std.proofs.lemmas.List.{append-nil}
use Rattle.jul_pool.specs.Added.{HasAdded}
use Rattle.jul_words.specs.Seats.{Seat}
use Rattle.jul_edge.specs.declared.functions.Direction.TheVariants.{Push}
use Rattle.jul_edge.specs.Edges.{application}
use Rattle.jul_rows.specs.Visits.{step}
use Rattle.jul_edge.specs.Covers.{app_of}
use Rattle.jul_edge.specs.Pushes.{stamp_of}
use Rattle.jul_edge.proofs.PushLaws.{stamped_gives}
use Rattle.jul_edge.proofs.pushes.PushVisitVisit.visit.Goals as goal

pub returns-then-not-apply-clause-visited : goal.returns-then-not-apply-clause-visited
returns-then-not-apply-clause-visited g c =
    let gave = subst (λ (t : ℕ). HasAdded (g.F.EdgeFn.gives c.args.self.now.f.now (application Push c.args.u c.args.place c.args.v t)) (g.F.Token.Share.log c.args.state.now.a) (g.F.Token.Share.log c.apply.new.token) c.apply.result) c.weight-w.ensures.weight c.apply.ensures.gives in
    let s = c.args.state.now.b.seat.log in
    stamped_gives (g.F.EdgeFn.gives c.args.self.now.f.now) c.args.self.now.round g.F.Token.Share.parts (app_of Push c.args.self.now.rows.now (step c.args.u c.args.place c.args.v)) c.apply.result false _ _ s s gave (g.met.F.Token.Share.log_has_parts _) (g.met.F.Token.Share.log_has_parts _) (λ e. refl)
    (sym (append-nil s) ∙ ap (λ (b : Bool). s ++ stamp_of c.args.self.now.round b c.args.v false) (sym c.if-not-apply.true))

pub returns-clause-visited : goal.returns-clause-visited
returns-clause-visited g c =
    let gave = subst (λ (t : ℕ). HasAdded (g.F.EdgeFn.gives c.args.self.now.f.now (application Push c.args.u c.args.place c.args.v t)) (g.F.Token.Share.log c.args.state.now.a) (g.F.Token.Share.log c.apply.new.token) c.apply.result) c.weight-w.ensures.weight c.apply.ensures.gives in
    let s = c.args.state.now.b.seat.log in
    let t = c.stamp.new.seat.log in
    let answered : c.apply.result ≡ true = c.if-not-apply.false in
    stamped_gives (g.F.EdgeFn.gives c.args.self.now.f.now) c.args.self.now.round g.F.Token.Share.parts (app_of Push c.args.self.now.rows.now (step c.args.u c.args.place c.args.v)) c.apply.result c.stamp.result _ _ s t gave (g.met.F.Token.Share.log_has_parts _) (g.met.F.Token.Share.log_has_parts _) (λ e. absurd (let x : true ≡ false = sym answered ∙ e in cc))
    (ap (λ (z : Seat). z.log) c.stamp.ensures.logged ∙ ap (λ (b : Bool). s ++ stamp_of c.args.self.now.round b c.args.v c.stamp.result) (sym answered))
