use Rattle.std.proofs.Common.{◌≡◌, ℕ, ◌+◌, ◌-◌, ◌<◌, suc, List, sym, ◌∙◌, subst, ap, arith, All}
use Rattle.std.proofs.lemmas.List.Elements.{All-push}
use Rattle.jul_stream_trials.specs.declared.cases.Case.{Case}
use Rattle.jul_stream_trials.specs.Cases.{IsWithin}
use Rattle.jul_stream_trials.proofs.CaseLaws.{cases_behind, case_taken, case_missing}
use Rattle.jul_stream_trials.proofs.cases.read_cases.Goals as goal

-- one case fewer is left to be read
one_fewer : (end counter : ℕ) → counter < end → end - counter ≡ suc (end - (counter + 1))
one_fewer end counter lt = omega (arith, lt)

pub returns-in_default-clause-malformed : goal.returns-in_default-clause-malformed
returns-in_default-clause-malformed c e =
    let input : List ℕ = c.args.input.now in
    let left : ℕ = c.in_ok-count.count.value - (c.loop.counter + 1) in
    c.loop.invariant.rest
    ∙ ap (cases_behind input c.loop.cases.items c.loop.at) (one_fewer c.in_ok-count.count.value c.loop.counter c.loop-test.true)
    ∙ case_missing input c.loop.cases.items c.loop.at left (sym c.next_case.ensures.case ∙ c.in_default.is)

pub loop-preserved : goal.loop-preserved
loop-preserved c =
    let input : List ℕ = c.args.input.now in
    let left : ℕ = c.in_ok-count.count.value - (c.loop.counter + 1) in
    let case : Case = c.in-Some.case in
    record {
      within = c.in-Some.ensures.within.within;
      lie = subst (All (IsWithin input)) (sym c.in_ok-push.ensures.items)
          (All-push (IsWithin input) c.loop.cases.items case c.loop.invariant.lie c.in-Some.ensures.within);
      rest =
          c.loop.invariant.rest
          ∙ ap (cases_behind input c.loop.cases.items c.loop.at) (one_fewer c.in_ok-count.count.value c.loop.counter c.loop-test.true)
          ∙ case_taken input c.loop.cases.items c.loop.at left case (sym c.next_case.ensures.case ∙ c.in-Some.is)
          ∙ ap (λ (cases : List Case). cases_behind input cases case.end left) (sym c.in_ok-push.ensures.items);
    }
