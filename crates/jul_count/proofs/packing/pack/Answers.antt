use Rattle.std.proofs.Common.{◌≡◌, ℕ, ◌*◌, ◌<◌, ◌≤◌, ◌∙◌, subst, eqb, length, arith}
use Rattle.std.specs.Prelude.{IfOk}
use Rattle.std.proofs.lemmas.Grind.{div_ceil_times}
use Rattle.std.proofs.lemmas.List.Concat.{flat_map_single}
use Rattle.std.proofs.lemmas.List.Elements.{All-contains}
use Rattle.std.proofs.lemmas.List.Folds.{Any-from_list_any}
use Rattle.std.proofs.lemmas.Map.Steps.{length-le_from_distinct_below}
use Rattle.std.proofs.lemmas.Bool.{eqb-true}
use Rattle.jul_subset.proofs.GroupLaws.{gathered}
use Rattle.jul_count.specs.Packs.{pack_of, alone}
use Rattle.jul_count.proofs.packing.pack.Goals as goal

pub prove-unreachable-requires : goal.prove-unreachable-requires
prove-unreachable-requires g c =
    let n : ℕ = length c.args.rows.now in
    let few : length c.args.sets.now ≤ n =
    length-le_from_distinct_below c.args.sets.now n c.requires.distinct (λ q held.
    let (k, s, lt, at, is) = Any-from_list_any (eqb q) c.args.sets.now held in
    let same : q ≡ s = eqb-true q s is in
    let in_range : s < n = All-contains (λ (r : ℕ). r < n) c.args.sets.now s c.requires.within (k, lt, at) in
    omega arith) in
    omega (arith, few, c.n.ensures.count)

pub returns : goal.returns
returns g c =
    let kept = g.T.VertexTest.kept c.args.keep.now in
    let enough : length c.args.sets.now ≤ c.div_ceil-chunks.result * c.args.team.now.chunk = rw c.div_ceil-chunks.ensures (div_ceil_times (length c.args.sets.now) c.args.team.now.chunk c.args.team.now.some_members).0 in
    subst (λ l. IfOk c.put_together.result (λ packs. packs.items ≡ l))
    (gathered (alone kept c.args.rows.now) c.args.sets.now c.args.team.now.chunk c.div_ceil-chunks.result _ _ _ _ c.in_ok-outs.ensures.each_once enough
    ∙ flat_map_single (pack_of kept c.args.rows.now) c.args.sets.now)
    c.put_together.ensures
