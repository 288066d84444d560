use Rattle.std.proofs.Common.{ℕ, ◌<◌, length, get_or, arith}
use Rattle.std.proofs.lemmas.Bool.{eq-eqb, eqb-true, false_from_ne_true}
use Rattle.std.proofs.lemmas.List.{get_or_default}
use Rattle.std.proofs.lemmas.List.Elements.{All-set}
use Rattle.std.proofs.lemmas.List.Filters.{FiltersInPlace-more_set, FiltersInPlace-more_no}
use Rattle.jul_bucket.proofs.gathering.keep_current.Goals as goal
use Rattle.jul_bucket.proofs.gathering.keep_current.Goals.{then-ranks-id, else-ranks-id}

pub loop-i-preserved : goal.loop-i-preserved
loop-i-preserved c =
    let inv = c.loop-i.invariant in
    let lt : c.loop-i.i < length c.loop-i.copies = omega (arith, inv.0.long) in
    let id : ℕ = get_or c.loop-i.copies c.loop-i.i 0 in
    let here = get_or_default c.loop-i.copies c.loop-i.i 0 (get_or c.loop-i.copies c.loop-i.i 0) lt in
    elim c.if-ranks-id.branch [
      | then-ranks-id w ↦
          rw (w.copies-is, w.kept-is) (
            FiltersInPlace-more_set inv.0 lt (eq-eqb _ _ w.if-ranks-id.true) here,
            All-set (λ (x : ℕ). x < length c.args.ranks.now) c.loop-i.copies c.loop-i.kept id (inv.1 c.loop-i.i 0 lt) inv.1,
          )
      | else-ranks-id w ↦ rw (w.copies-is, w.kept-is) (FiltersInPlace-more_no inv.0 lt (false_from_ne_true _ (λ t. w.if-ranks-id.false (eqb-true _ _ t))) here, inv.1)
    ]
