use Rattle.std.proofs.Common.{Bool, ℕ, sym, subst}
use Rattle.std.specs.Prelude.{All, IsTrue}
use Rattle.jul_base.specs.Graph.{vertices}
use Rattle.jul_core.specs.Windows.{AreWindows}
use Rattle.jul_core.proofs.WindowLaws.{found_symmetric}
use Rattle.jul_core.proofs.symmetry.are_windows_mirrored.Goals as goal

pub returns : goal.returns
returns g c is_true =
    let graph = c.args.rows.now in
    let windows : ℕ = c.args.team.now.workers in
    let are : AreWindows windows (vertices graph) c.as_slice.result.now =
    subst (AreWindows windows (vertices graph)) (sym c.as_slice.ensures.value) (subst (λ n. AreWindows windows n c.in_ok-bounds.bounds.items) c.n-2.ensures.count c.in_ok-bounds.ensures) in
    let found : All (λ (one : Bool). IsTrue one) c.in_ok-done.done.outs.items =
    subst (All (λ (one : Bool). IsTrue one)) c.as_slice-2.ensures.value (c.are_all_mirrored.ensures is_true) in
    found_symmetric graph windows c.as_slice.result.now _ _ c.in_ok-done.done.outs.items c.in_ok-done.done.order are c.in_ok-done.ensures.each_once found
