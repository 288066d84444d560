use Rattle.std.proofs.Common.{get_or, ap, refl, List, ℕ, []}
use Rattle.std.specs.List.{slice_index_or}
use Rattle.jul_rows.proofs.VisitLaws.{same_then}
use Rattle.jul_edge.proofs.PullingLaws.{pull_more, tried_append}
use Rattle.jul_edge.proofs.pulling.pull_row.Goals as goal

pub loop-k-preserved : goal.loop-k-preserved
loop-k-preserved g c =
    let was = c.loop-k.invariant in
    let made = c.pull_place-hit.ensures in
    let us : List ℕ = slice_index_or c.args.in_rows.now.sources c.args.v [] in
    let ps : List ℕ = slice_index_or c.args.in_rows.now.places c.args.v [] in
    record {
      tried = tried_append (g.V.Visit.visits c.args.visit.now) _ _ _ _ _ _ _ _ _ (pull_more us ps c.args.from.now.members c.args.v c.loop-k.k (get_or c.sources-sources.result.now c.loop-k.k 0) (get_or c.places-place-items.result.now c.loop-k.k 0) (ap (λ l. get_or l c.loop-k.k 0) c.sources-sources.ensures.sources) (ap (λ l. get_or l c.loop-k.k 0) c.places-place-items.ensures.places)) refl was.tried made.tried;
      same = same_then g.V.Visit.home g.V.Visit.is_root g.V.Visit.out _ _ _ was.same made.same;
      kept = λ s h. made.kept s (was.kept s h);
    }
