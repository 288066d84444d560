use Rattle.std.proofs.Common.{◌≡◌, ℕ, ◌+◌, ◌<◌, true, length, get_or, sym, ◌∙◌, ap, arith}
use Rattle.jul_base.specs.declared.graphs.RawGraph.{RawGraph}
use Rattle.jul_base.specs.Graph.{row_start, target, weight}
use Rattle.jul_check.specs.DistanceChecks.{is_lowered}
use Rattle.jul_check.proofs.PlaceLaws.{none_more, passes_at}
use Rattle.jul_check.proofs.LoweringLaws.{is_lowered-none, is_lowered-less, is_lowered-not}
use Rattle.jul_check.proofs.distance_checks.is_lowerable.Goals as goal
use Rattle.jul_check.proofs.distance_checks.is_lowerable.Goals.{then-there-via-then-there, then-there-via-else-there+then-exceeds}

pub returns-then-there : goal.returns-then-there
returns-then-there c =
    let g : RawGraph = c.args.rows.now in
    let k : ℕ = c.loop-w.w-index in
    let lt : k < length c.row-w-items.result.now = c.loop-w-test.true in
    let p : ℕ = row_start g c.args.v + k in
    let t : ℕ = get_or c.row-w-items.result.now k 0 in
    let to : target g p ≡ t = sym (c.row-w-items.ensures.target k lt) in
    let test : is_lowered g c.args.dist.now c.args.v p ≡ true = elim c.then-there.branch [
      | then-there-via-then-there w ↦ is_lowered-none g c.args.dist.now c.args.v p t to w.if-there.true
      | then-there-via-else-there+then-exceeds w ↦
          is_lowered-less g c.args.dist.now c.args.v p t w.weight.result to
          (sym (w.weight.ensures.weight ∙ ap (weight g) c.loop-w.invariant.place)) (sym w.exceeds.ensures ∙ w.if-exceeds.true)
    ] in
    sym (passes_at g c.args.v p (is_lowered g c.args.dist.now c.args.v) (c.row-w-items.ensures.place k lt) test)

pub loop-w-preserved : goal.loop-w-preserved
loop-w-preserved c =
    let g : RawGraph = c.args.rows.now in
    let k : ℕ = c.loop-w.w-index in
    let lt : k < length c.row-w-items.result.now = c.loop-w-test.true in
    let p : ℕ = row_start g c.args.v + k in
    let t : ℕ = get_or c.row-w-items.result.now k 0 in
    record {
      place = omega arith;
      none =
          none_more (is_lowered g c.args.dist.now c.args.v) (row_start g c.args.v) k c.loop-w.invariant.none
          (is_lowered-not g c.args.dist.now c.args.v p t c.weight.result (sym (c.row-w-items.ensures.target k lt))
          (sym (c.weight.ensures.weight ∙ ap (weight g) c.loop-w.invariant.place)) c.if-there.false (sym c.exceeds.ensures ∙ c.if-exceeds.false));
    }
