use Rattle.std.proofs.Common.{Ok, sym, ◌∙◌, ap, subst}
use Rattle.jul_check.specs.declared.verdicts.Verdict.{Verdict}
use Rattle.jul_witness.specs.declared.witnesses.Columns.{Columns}
use Rattle.jul_cmd.specs.Suited.{refusal_of_sources}
use Rattle.jul_cmd.specs.Checking.{AreBorneOut}
use Rattle.jul_cmd.proofs.SourceLaws.{named_inside}
use Rattle.jul_cmd.proofs.VerdictLaws.{at_ok, ok_is, same_ok, judges_refused, judges_outside, judged-cores, judged-cover, judged-distances}
use Rattle.jul_cmd.proofs.checking.judge_columns.Goals as goal
use Rattle.jul_cmd.proofs.checking.judge_columns.Goals.{in-Cores, in-Distances+in_ok-check_sources-in-Distances, in-Cover}

pub returns-in_err-check_sources-in-Distances-clause-verdict : goal.returns-in_err-check_sources-in-Distances-clause-verdict
returns-in_err-check_sources-in-Distances-clause-verdict c =
    judges_refused c.from_residual.result _ _ c.from_residual.ensures.1
    (judges_outside c.args.rows.now c.args.sources.now _ c.args.columns.now c.in-Distances.d _ c.in-Distances.is c.n.ensures.count c.in_err-check_sources-in-Distances.ensures.outside)

pub check_distances-verdict-requires-clause-sources : goal.check_distances-verdict-requires-clause-sources
check_distances-verdict-requires-clause-sources c =
    named_inside _ _ c.args.sources.now c.n.ensures.count c.requires.sources c.in_ok-check_sources-in-Distances.ensures.inside

pub returns-clause-verdict : goal.returns-clause-verdict
returns-clause-verdict c =
    elim c.match-columns.branch [
      | in-Cores w ↦
          let found = ok_is _ c.in_ok-verdict.field-0 _ (sym w.verdict-is ∙ c.in_ok-verdict.was) w.check_cores-verdict.ensures.verdict in
          judged-cores c.args.rows.now c.args.sources.now c.args.columns.now w.in-Cores.c w.in-Cores.is ∙ ap (λ (v : Verdict). Ok v) (sym found)
      | in-Distances+in_ok-check_sources-in-Distances w ↦
          let found = ok_is _ c.in_ok-verdict.field-0 _ (sym w.verdict-is ∙ c.in_ok-verdict.was) w.check_distances-verdict.ensures.verdict in
          judged-distances c.args.rows.now c.args.sources.now c.args.columns.now w.in-Distances.d w.in-Distances.is
          (ap (λ n. refusal_of_sources n c.args.sources.now) (sym w.n.ensures.count) ∙ w.in_ok-check_sources-in-Distances.ensures.inside) ∙ ap (λ (v : Verdict). Ok v) (sym found)
      | in-Cover w ↦
          let found = ok_is _ c.in_ok-verdict.field-0 _ (sym w.verdict-is ∙ c.in_ok-verdict.was) w.check_cover-verdict.ensures.verdict in
          judged-cover c.args.rows.now c.args.sources.now c.args.columns.now w.in-Cover.c w.in-Cover.is ∙ ap (λ (v : Verdict). Ok v) (sym found)
    ]

pub returns-clause-sound : goal.returns-clause-sound
returns-clause-sound c is_yes =
    let P : Columns → Type 0 = λ x. AreBorneOut c.args.rows.now c.args.sources.now x in
    elim c.match-columns.branch [
      | in-Cores w ↦
          subst P (sym w.in-Cores.is)
          (at_ok _ _ c.in_ok-verdict.field-0 (sym w.verdict-is ∙ c.in_ok-verdict.was) w.check_cores-verdict.ensures.sound (same_ok _ _ is_yes))
      | in-Distances+in_ok-check_sources-in-Distances w ↦
          subst P (sym w.in-Distances.is)
          (at_ok _ _ c.in_ok-verdict.field-0 (sym w.verdict-is ∙ c.in_ok-verdict.was) w.check_distances-verdict.ensures.sound (same_ok _ _ is_yes))
      | in-Cover w ↦
          subst P (sym w.in-Cover.is)
          (at_ok _ _ c.in_ok-verdict.field-0 (sym w.verdict-is ∙ c.in_ok-verdict.was) w.check_cover-verdict.ensures.sound (same_ok _ _ is_yes))
    ]
