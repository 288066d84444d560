use Rattle.std.proofs.Common.{List, ℕ, subst}
use Rattle.jul_base.specs.Trees.{AreTree}
use Rattle.jul_cmd.proofs.ResultLaws.{tree_lawful}
use Rattle.jul_cmd.proofs.distances.find_tree.Goals as goal

pub returns-clause-lawful : goal.returns-clause-lawful
returns-clause-lawful g c =
    let P : List ℕ → Type 0 = λ dist. AreTree c.args.rows.now c.args.sources.now dist c.in_ok-hops.hops c.in_ok-hops.parent in
    tree_lawful c.args.rows.now c.n.ensures.lawful c.args.sources.now (record { dist = c.in_ok-dist.dist; hops = c.in_ok-hops.hops; parent = c.in_ok-hops.parent })
    (subst P c.as_slice.ensures c.in_ok-hops.ensures)
