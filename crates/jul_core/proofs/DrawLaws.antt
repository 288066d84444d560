-- The levels: each vertex that isn't left was taken in exactly one round.
use Rattle.std.proofs.Common.{◌≡◌, ℕ, zero, suc, ◌+◌, ◌<◌, ◌≤◌, true, false, List, [], ◌∷◌, ◌++◌, length, sym, ◌∙◌, ap, subst, arith, inl, inr}
use Rattle.std.specs.List.{sum_by}
use Rattle.std.proofs.lemmas.Bool.{cases_lt, cases_eq, cases_order, cases_Bool, both_ways}
use Rattle.std.proofs.lemmas.List.FromFn.{length-range_with_len, length-map-range_with_len, get_or-map-range_with_len, map-range_with_len_more}
use Rattle.std.proofs.lemmas.List.Sums.{sum_by_push}
use Rattle.jul_base.specs.declared.graphs.RawGraph.{RawGraph}
use Rattle.jul_base.specs.Numbers.{below}
use Rattle.jul_base.specs.Graph.{vertices}
use Rattle.jul_base.specs.Sets.{has}
use Rattle.jul_base.specs.Coreness.{inner_degree}
use Rattle.jul_base.specs.Levels.{next_bound, taken, peeling, IsLevel}
use Rattle.jul_base.proofs.SetLaws.{has-from_Contains}
use Rattle.jul_base.proofs.PeelLaws.{has_below}
use Rattle.jul_core.specs.Peels.{draw_in, draws_before, draw_at}
use Rattle.jul_bucket.specs.declared.draws.Draw.{Draw}
use Rattle.jul_core.proofs.StageLaws.{least-is, taken-is, taken-here, stays-is, stays-here, parts_sum, parts_length}

-- who is left was left before
pub left_before : (g : RawGraph) (v i j : ℕ) → i ≤ j → has (peeling g j).left v ≡ true → has (peeling g i).left v ≡ true
left_before g v i zero le h = let same : 0 ≡ i = omega arith in subst (λ k. has (peeling g k).left v ≡ true) same h
left_before g v i (suc j) le h =
    elim (cases_eq i (suc j)) [
      | inl same ↦ subst (λ k. has (peeling g k).left v ≡ true) (sym same) h
      | inr other ↦ left_before g v i j (omega arith) (stays-is g (peeling g j) v h).0
    ]

-- who isn't left was taken
pub drawn_before : (g : RawGraph) (v t : ℕ) → v < vertices g → has (peeling g t).left v ≡ false → (i : ℕ) × (i < t) × (has (taken g (peeling g i)) v ≡ true)
drawn_before g v zero v_lt gone = absurd (both_ways _ gone (has_below (vertices g) v v_lt))
drawn_before g v (suc t) v_lt gone =
    elim (cases_Bool (has (peeling g t).left v)) [
      | inr before ↦ let (i, lt, is) = drawn_before g v t v_lt before in (i, omega arith, is)
      | inl left ↦
          elim (cases_lt (next_bound g (peeling g t)) (inner_degree g (peeling g t).left v)) [
            | inl lt ↦ absurd (both_ways _ gone (stays-here g (peeling g t) v left lt))
            | inr le ↦ (t, omega arith, taken-here g (peeling g t) v left le)
          ]
    ]

-- not in two rounds
not_later : (g : RawGraph) (v i j : ℕ) → i < j → has (taken g (peeling g i)) v ≡ true → has (taken g (peeling g j)) v ≡ true → ⊥
not_later g v i j lt in_i in_j =
    let left : has (peeling g (suc i)).left v ≡ true = left_before g v (suc i) j (omega arith) (taken-is g (peeling g j) v in_j).0 in
    omega (arith, (stays-is g (peeling g i) v left).1, (taken-is g (peeling g i) v in_i).1)

pub taken_once : (g : RawGraph) (v i j : ℕ) → has (taken g (peeling g i)) v ≡ true → has (taken g (peeling g j)) v ≡ true → i ≡ j
taken_once g v i j in_i in_j =
    elim (cases_order i j) [
      | inl same ↦ same
      | inr (inl lt) ↦ absurd (not_later g v i j lt in_i in_j)
      | inr (inr gt) ↦ absurd (not_later g v j i gt in_j in_i)
    ]

-- a vertex has one level
pub level_once : (g : RawGraph) (v i j : ℕ) → IsLevel g v i → IsLevel g v j → i ≡ j
level_once g v i j at_i at_j = taken_once g v i j (has-from_Contains (taken g (peeling g i)) v at_i) (has-from_Contains (taken g (peeling g j)) v at_j)

-- ---- the list of draws

pub length-draws : (g : RawGraph) (t : ℕ) → length (draws_before g t) ≡ t
length-draws g t = length-map-range_with_len (λ i. draw_in g (peeling g i)) 0 t

pub draw_at-is : (g : RawGraph) (t i : ℕ) → i < t → draw_at (draws_before g t) i ≡ draw_in g (peeling g i)
draw_at-is g t i lt = get_or-map-range_with_len (λ i. draw_in g (peeling g i)) 0 t i i (record { bucket = 0; ids = [] }) lt (omega arith)

pub draws-more : (g : RawGraph) (t : ℕ) → draws_before g (t + 1) ≡ draws_before g t ++ draw_in g (peeling g t) ∷ []
draws-more g t = map-range_with_len_more (λ i. draw_in g (peeling g i)) 0 t t (omega arith)

-- a sum over the draws and over those left is one over all vertices
pub draws_sum : (g : RawGraph) (f : ℕ → ℕ) (t : ℕ) →
    sum_by (λ (d : Draw). sum_by f d.ids) (draws_before g t) + sum_by f (peeling g t).left ≡ sum_by f (below (vertices g))
draws_sum g f zero = omega arith
draws_sum g f (suc t) =
    let next : t + 1 ≡ suc t = omega arith in
    let more : draws_before g (suc t) ≡ draws_before g t ++ draw_in g (peeling g t) ∷ [] = ap (draws_before g) (sym next) ∙ draws-more g t in
    omega (
      arith,
      ap (sum_by (λ (d : Draw). sum_by f d.ids)) more,
      sum_by_push (λ (d : Draw). sum_by f d.ids) (draws_before g t) (draw_in g (peeling g t)),
      parts_sum g (peeling g t) f,
      draws_sum g f t,
    )

-- each round takes one at least, as long as one is left
some-length : (xs : List ℕ) (x : ℕ) → has xs x ≡ true → 0 < length xs
some-length [] x h = absurd (cc)
some-length (y ∷ ys) x h = omega arith

left-few : (g : RawGraph) (t v : ℕ) → has (peeling g t).left v ≡ true → t + length (peeling g t).left ≤ vertices g
left-few g zero v left = omega (arith, length-range_with_len 0 (vertices g))
left-few g (suc t) v left =
    let before : has (peeling g t).left v ≡ true = left_before g v t (suc t) (omega arith) left in
    let (u, u_left, least) = least-is (inner_degree g (peeling g t).left) (peeling g t).left v before in
    let u_taken : has (taken g (peeling g t)) u ≡ true = taken-here g (peeling g t) u u_left (omega (arith, least)) in
    omega (arith, left-few g t v before, parts_length g (peeling g t), some-length (taken g (peeling g t)) u u_taken)

pub rounds-few : (g : RawGraph) (t v : ℕ) → has (peeling g t).left v ≡ true → t < vertices g
rounds-few g t v left = omega (arith, left-few g t v left, some-length (peeling g t).left v left)
