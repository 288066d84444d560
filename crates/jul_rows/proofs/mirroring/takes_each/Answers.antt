use Rattle.std.proofs.Common.{◌≡◌, ◌+◌, ℕ, List, length, sym, subst, arith}
use Rattle.jul_base.specs.Graph.{row}
use Rattle.jul_base.proofs.ListLaws.{written}
use Rattle.jul_rows.specs.Mirrors.{HasTaken, HaveTaken, AreUsedUp}
use Rattle.jul_rows.proofs.MirrorLaws.{have_none, have_more, mirrored}
use Rattle.jul_rows.proofs.mirroring.takes_each.Goals as goal

pub loop-u-init : goal.loop-u-init
loop-u-init c = have_none c.args.rows.now c.m.ensures.lawful c.args.from c.args.to c.args.mirror.now _ c.requires.mirror c.requires.within c.in_ok-next.ensures

pub loop-u-preserved : goal.loop-u-preserved
loop-u-preserved c =
    let g = c.args.rows.now in
    let u : ℕ = c.loop-u.u in
    let new : List ℕ = c.take_row.new.next in
    let one : HasTaken u c.args.from (row g u) c.args.mirror.now c.loop-u.next.items new =
    subst (λ l. HasTaken u c.args.from l c.args.mirror.now c.loop-u.next.items new) c.row.ensures.row
    (subst (λ l. HasTaken u c.args.from c.row.result.now c.args.mirror.now l new) c.as_mut_slice.ensures.value (c.take_row.ensures c.if-not-take_row.false)) in
    subst (HaveTaken g c.args.from c.args.to c.args.mirror.now (u + 1)) (sym (written new c.loop-u.next.items c.loop-u.next.len (omega (arith, c.take_row.auto.next, c.as_mut_slice.ensures.len))))
    (have_more g c.m.ensures.lawful c.args.from c.args.to c.args.mirror.now u c.loop-u.next.items new c.loop-u.invariant one)

pub returns : goal.returns
returns c is_true =
    let g = c.args.rows.now in
    let next = c.loop-u.next.items in
    let end : c.loop-u.u ≡ c.args.to = omega (arith, c.loop-u-test.false, c.loop-u.auto.u-end) in
    mirrored g c.m.ensures.lawful c.args.from c.args.to c.args.mirror.now next c.requires.within c.requires.mirror (subst (λ u. HaveTaken g c.args.from c.args.to c.args.mirror.now u next) end c.loop-u.invariant)
    (subst (λ (l : List ℕ). AreUsedUp g c.args.from c.args.mirror.now l (length l)) c.as_slice.ensures.value (c.are_used_up.ensures is_true))
