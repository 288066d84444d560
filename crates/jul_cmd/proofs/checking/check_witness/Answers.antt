use Rattle.std.proofs.Common.{refl, ◌∙◌}
use Rattle.std.proofs.lemmas.Result.{on_ok_weaker, IfErr-weaker}
use Rattle.jul_query.specs.Asking.{named_sources}
use Rattle.jul_cmd.proofs.VerdictLaws.{at_err, refusal_is}
use Rattle.jul_cmd.proofs.checking.check_witness.Goals as goal

pub returns-in_err-check_size-clause-first : goal.returns-in_err-check_size-clause-first
returns-in_err-check_size-clause-first c =
    at_err _ c.from_residual.result _ c.from_residual.ensures.1
    (refusal_is c.args.rows.now (named_sources c.args.given.now) c.args.witness.now _ _ _ _ c.n.ensures.count c.in_err-check_size.ensures.other refl refl)

pub returns-in_err-check_places-clause-first : goal.returns-in_err-check_places-clause-first
returns-in_err-check_places-clause-first c =
    at_err _ c.from_residual-in_err-check_places.result _ c.from_residual-in_err-check_places.ensures.1
    (refusal_is c.args.rows.now (named_sources c.args.given.now) c.args.witness.now _ _ _ _ c.n.ensures.count c.in_ok-check_size.ensures.same c.m.ensures.count c.in_err-check_places.ensures.other)

pub returns-clause-none : goal.returns-clause-none
returns-clause-none c =
    on_ok_weaker c.check_names.result (λ same.
    refusal_is c.args.rows.now (named_sources c.args.given.now) c.args.witness.now _ _ _ _ c.n.ensures.count c.in_ok-check_size.ensures.same c.m.ensures.count c.in_ok-check_places.ensures.same ∙ same)
    c.check_names.ensures.same

pub returns-clause-first : goal.returns-clause-first
returns-clause-first c =
    IfErr-weaker c.check_names.result _ _ (λ status other.
    refusal_is c.args.rows.now (named_sources c.args.given.now) c.args.witness.now _ _ _ _ c.n.ensures.count c.in_ok-check_size.ensures.same c.m.ensures.count c.in_ok-check_places.ensures.same ∙ other)
    c.check_names.ensures.other
