use Rattle.std.proofs.Common.{◌≡◌, ℕ, ◌<◌, false, length, get_or, arith}
use Rattle.std.proofs.lemmas.List.{get_or_default}
use Rattle.std.proofs.lemmas.List.Elements.{All-set}
use Rattle.jul_cover.specs.PackedSets.{is_open}
use Rattle.jul_cover.proofs.PackingLaws.{filters_more}
use Rattle.jul_cover.proofs.packing.keep_open.Goals as goal

pub bounds-marks-e : goal.bounds-marks-e
bounds-marks-e c = omega (arith, c.loop-i.invariant.1 c.loop-i.i 0 (omega arith), c.requires.marks.size)

pub loop-i-preserved : goal.loop-i-preserved
loop-i-preserved c =
    let lt : c.loop-i.i < length c.loop-i.elements = omega arith in
    let e : ℕ = get_or c.loop-i.elements c.loop-i.i 0 in
    let mark : get_or c.args.marks.now e false ≡ is_open c.args.by.now e = c.requires.marks.each e (c.loop-i.invariant.1 c.loop-i.i 0 lt) in
    rw (c.from-kept.ensures, mark) (
      filters_more c.loop-i.invariant.0 lt (get_or_default c.loop-i.elements c.loop-i.i 0 e lt),
      All-set (λ (x : ℕ). x < length c.args.by.now) c.loop-i.elements c.loop-i.kept e (c.loop-i.invariant.1 c.loop-i.i 0 lt) c.loop-i.invariant.1,
    )
