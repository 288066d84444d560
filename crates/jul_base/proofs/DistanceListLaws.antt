-- The list of least distances: relaxing all edges until nothing changes gives it.
use Rattle.std.proofs.Common.{◌≡◌, ◌≢◌, ◌⊎◌, ℕ, zero, suc, ◌+◌, ◌-◌, ◌*◌, ◌<◌, ◌≤◌, ltb, List, [], ◌∷◌, ◌++◌, map, length, get_or, sum, sym, ◌∙◌, subst, refl, ap, arith, inl, inr}
use Rattle.std.specs.List.{All, flat_map, range_with_len}
use Rattle.std.proofs.lemmas.Bool.{cases_eq, cases_lt, lt-ltb, le-ltb, cond-true, cond-false}
use Rattle.std.proofs.lemmas.List.Sums.{sum_by-set}
use Rattle.std.proofs.lemmas.List.FromFn.{length-map-range_with_len, get_or-map-range_with_len}
use Rattle.std.proofs.lemmas.List.Elements.{All-nil, All-cons, All-head, All-tail, All-append, All-get_or}
use Rattle.jul_base.specs.declared.graphs.RawGraph.{RawGraph}
use Rattle.jul_base.specs.declared.limits.TheConstants.{NONE, MAX_W, MAX_N}
use Rattle.jul_base.specs.Graph.{vertices, row_start, row_end, target, weight, IsPlaceOf, IsLawful}
use Rattle.jul_base.specs.Distances.{IsClosed, AreDistances}
use Rattle.jul_base.specs.Sources.{first_numbers}
use Rattle.jul_base.specs.Tentative.{IsTentative}
use Rattle.jul_base.specs.DistanceList.{Edge, edge, edges_of, all_edges, offered, relaxed, relaxed_all, relaxed_times, distance_list}
use Rattle.jul_base.proofs.GraphLaws.{place_in_range, target_in_range, weight-le, row_start-le-row_end}
use Rattle.jul_base.proofs.DistanceLaws.{AreDistances-unique, closed_are_distances}
use Rattle.jul_base.proofs.TentativeLaws.{Lowers, lowered, lower_tentative, first_tentative, small, bounded-le, bounded-le-none}

-- ---- one edge

-- an edge of the graph
abbrev pub Held : RawGraph → Edge → Type 0
Held g e = IsPlaceOf g e.source e.place

-- the edge lowers nothing
abbrev pub IsStill : RawGraph → List ℕ → Edge → Type 0
IsStill g dist e = get_or dist (target g e.place) 0 ≤ offered g dist e

module _ (g : RawGraph) (lawful : IsLawful g) (sources : List ℕ) (dist : List ℕ) (t : IsTentative g sources dist) (e : Edge) (at : Held g e) where
  abbrev To : ℕ
  To = target g e.place

  to_in : To < vertices g
  to_in = target_in_range g lawful e.place (place_in_range g lawful e.source e.place at)

  to_in_list : To < length dist
  to_in_list = omega (arith, to_in, t.bounded.size)

  module _ (less : offered g dist e < get_or dist To 0) where
    lowers : Lowers g dist e.source e.place
    lowers = record {
      at = at;
      some = λ none. absurd (omega (arith, none, less, bounded-le-none g lawful dist t.bounded To to_in));
      light = weight-le g lawful e.place;
      lower = less;
    }

    lowered_less : sum (lowered g dist e.source e.place) < sum dist
    lowered_less =
        let s : sum (lowered g dist e.source e.place) + get_or dist To 0 ≡ sum dist + offered g dist e = sum_by-set (λ x. x) dist To (offered g dist e) 0 to_in_list in
        omega (arith, s, less)

  -- what relaxing the edge does: nothing, where it is still, or the sum falls
  relaxed_one : IsTentative g sources (relaxed g e dist) × (((relaxed g e dist ≡ dist) × IsStill g dist e) ⊎ (sum (relaxed g e dist) < sum dist))
  relaxed_one = elim (cases_lt (offered g dist e) (get_or dist To 0)) [
    | inl less ↦
        let is : relaxed g e dist ≡ lowered g dist e.source e.place = cond-true (ltb (offered g dist e) (get_or dist To 0)) _ _ (lt-ltb _ _ less) in
        (subst (IsTentative g sources) (sym is) (lower_tentative g lawful sources dist t e.source e.place (lowers less)), inr (let falls : sum (lowered g dist e.source e.place) < sum dist = lowered_less less in omega (arith, ap sum is, falls)))
    | inr still ↦
        let is : relaxed g e dist ≡ dist = cond-false (ltb (offered g dist e) (get_or dist To 0)) _ _ (le-ltb _ _ still) in
        (subst (IsTentative g sources) (sym is) t, inl (is, still))
  ]

-- ---- all edges

-- the column is as it was and each edge is still, or the sum fell
abbrev Settles : RawGraph → List Edge → List ℕ → List ℕ → Type 0
Settles g es old new = ((new ≡ old) × All (IsStill g old) es) ⊎ (sum new < sum old)

module _ (g : RawGraph) (lawful : IsLawful g) (sources : List ℕ) where
  relaxed_some : (es : List Edge) (dist : List ℕ) → All (Held g) es → IsTentative g sources dist → IsTentative g sources (relaxed_all g es dist) × Settles g es dist (relaxed_all g es dist)
  relaxed_some [] dist held t = (t, inl (refl, All-nil (IsStill g dist)))
  relaxed_some (e ∷ es) dist held t =
      let one : IsTentative g sources (relaxed g e dist) × (((relaxed g e dist ≡ dist) × IsStill g dist e) ⊎ (sum (relaxed g e dist) < sum dist)) = relaxed_one g lawful sources dist t e (All-head (Held g) e es held) in
      let mid : List ℕ = relaxed g e dist in
      let rest : IsTentative g sources (relaxed_all g es mid) × Settles g es mid (relaxed_all g es mid) = relaxed_some es mid (All-tail (Held g) e es held) one.0 in (
        rest.0,
        elim one.1 [
          | inl same ↦ elim rest.1 [
            | inl still ↦
                let later : All (IsStill g dist) es = subst (λ d. All (IsStill g d) es) same.0 still.1 in
                inl (still.0 ∙ same.0, All-cons (IsStill g dist) e es same.1 later)
            | inr falls ↦ inr (omega (arith, falls, ap sum same.0))
          ]
          | inr falls ↦ elim rest.1 [
            | inl still ↦ inr (omega (arith, falls, ap sum still.0))
            | inr more ↦ inr (omega (arith, falls, more))
          ]
        ],
      )

  -- relaxed as often as the sum says, nothing is left to be lowered
  relaxed_ends : All (Held g) (all_edges g) → (k : ℕ) (dist : List ℕ) → sum dist ≤ k → IsTentative g sources dist →
      IsTentative g sources (relaxed_times g k dist) × All (IsStill g (relaxed_times g k dist)) (all_edges g)
  relaxed_ends held zero dist few t =
      let one : IsTentative g sources (relaxed_all g (all_edges g) dist) × Settles g (all_edges g) dist (relaxed_all g (all_edges g) dist) = relaxed_some (all_edges g) dist held t in
      (t, elim one.1 [ inl still ↦ still.1 | inr falls ↦ absurd (omega (arith, falls, few)) ])
  relaxed_ends held (suc k) dist few t =
      let one : IsTentative g sources (relaxed_all g (all_edges g) dist) × Settles g (all_edges g) dist (relaxed_all g (all_edges g) dist) = relaxed_some (all_edges g) dist held t in
      elim one.1 [
        | inl still ↦
            let stays : (j : ℕ) → relaxed_times g j dist ≡ dist = stays_so dist still.0 in
            let is : relaxed_times g (suc k) dist ≡ dist = stays (suc k) in
            (subst (IsTentative g sources) (sym is) t, subst (λ d. All (IsStill g d) (all_edges g)) (sym is) still.1)
        | inr falls ↦ relaxed_ends held k (relaxed_all g (all_edges g) dist) (omega (arith, falls, few)) one.0
      ] where
        stays_so : (d : List ℕ) → relaxed_all g (all_edges g) d ≡ d → (j : ℕ) → relaxed_times g j d ≡ d
        stays_so d same zero = refl
        stays_so d same (suc j) = ap (relaxed_times g j) same ∙ stays_so d same j

  -- relaxed any number of times a column stays one of tentative numbers
  times_tentative : All (Held g) (all_edges g) → (k : ℕ) (dist : List ℕ) → IsTentative g sources dist → IsTentative g sources (relaxed_times g k dist)
  times_tentative held zero dist t = t
  times_tentative held (suc k) dist t = times_tentative held k (relaxed_all g (all_edges g) dist) (relaxed_some (all_edges g) dist held t).0

-- ---- all edges are the places of the vertices

module _ (g : RawGraph) (P : Edge → Type 0) where
  All-left : (xs ys : List Edge) → All P (xs ++ ys) → All P xs
  All-left [] ys h = All-nil P
  All-left (x ∷ xs) ys h = All-cons P x xs (All-head P x (xs ++ ys) h) (All-left xs ys (All-tail P x (xs ++ ys) h))

  All-right : (xs ys : List Edge) → All P (xs ++ ys) → All P ys
  All-right [] ys h = h
  All-right (x ∷ xs) ys h = All-right xs ys (All-tail P x (xs ++ ys) h)

  edges_at : (a n u p : ℕ) → a ≤ u → u < a + n → All P (flat_map (edges_of g) (range_with_len a n)) → IsPlaceOf g u p → P (edge u p)
  edges_at a zero u p lo hi all at = absurd (omega arith)
  edges_at a (suc n) u p lo hi all at =
      elim (cases_eq a u) [
        | inl same ↦
            let row : All P (edges_of g a) = All-left (edges_of g a) (flat_map (edges_of g) (range_with_len (a + 1) n)) all in
            let first : ℕ = row_start g u in
            let count : ℕ = row_end g u - row_start g u in
            let row' : All P (map (edge u) (range_with_len first count)) = subst (λ x. All P (edges_of g x)) same row in
            let k : ℕ = p - first in
            let lt : k < count = omega (arith, at.from, at.to) in
            let is : get_or (map (edge u) (range_with_len first count)) k (edge u p) ≡ edge u p = get_or-map-range_with_len (edge u) first count k p (edge u p) lt (omega (arith, at.from)) in
            subst P is (All-get_or P (map (edge u) (range_with_len first count)) k (edge u p) (omega (arith, lt, length-map-range_with_len (edge u) first count)) row')
        | inr ne ↦ edges_at (a + 1) n u p (grind arith) (omega arith) (All-right (edges_of g a) (flat_map (edges_of g) (range_with_len (a + 1) n)) all) at
      ]

held_row : (g : RawGraph) (u : ℕ) → u < vertices g → (a n : ℕ) → row_start g u ≤ a → a + n ≤ row_end g u → All (Held g) (map (edge u) (range_with_len a n))
held_row g u lt a zero lo hi = All-nil (Held g)
held_row g u lt a (suc n) lo hi =
    All-cons (Held g) (edge u a) (map (edge u) (range_with_len (a + 1) n)) (record { vertex = lt; from = lo; to = omega arith })
    (held_row g u lt (a + 1) n (omega arith) (omega arith))

held_from : (g : RawGraph) → IsLawful g → (a n : ℕ) → a + n ≤ vertices g → All (Held g) (flat_map (edges_of g) (range_with_len a n))
held_from g lawful a zero le = All-nil (Held g)
held_from g lawful a (suc n) le =
    let ordered : row_start g a ≤ row_end g a = row_start-le-row_end g lawful a (omega arith) in
    All-append (Held g) (edges_of g a) (flat_map (edges_of g) (range_with_len (a + 1) n))
    (held_row g a (omega arith) (row_start g a) (row_end g a - row_start g a) (omega arith) (omega (arith, ordered)))
    (held_from g lawful (a + 1) n (omega arith))

-- where each edge is still, the column is closed
still_closed : (g : RawGraph) → IsLawful g → (sources dist : List ℕ) → IsTentative g sources dist → All (IsStill g dist) (all_edges g) → IsClosed g dist
still_closed g lawful sources dist t still u p at some =
    let le : get_or dist (target g p) 0 ≤ get_or dist u 0 + weight g p = edges_at g (IsStill g dist) 0 (vertices g) u p (omega arith) (omega (arith, at.vertex)) still at in
    (λ none. absurd (omega (arith, none, le, small g lawful dist t.bounded u at.vertex some, weight-le g lawful p)), le)

-- ---- the list

module _ (g : RawGraph) (lawful : IsLawful g) (sources : List ℕ) (within : All (λ s. s < vertices g) sources) where
  ended : IsTentative g sources (distance_list g sources) × All (IsStill g (distance_list g sources)) (all_edges g)
  unfolding distance_list
  ended =
      let first : List ℕ = first_numbers (vertices g) sources in
      relaxed_ends g lawful sources (held_from g lawful 0 (vertices g) (omega arith)) (sum first) first (omega arith) (first_tentative g sources within)

  pub distance_list-tentative : IsTentative g sources (distance_list g sources)
  distance_list-tentative = ended.0

  pub distance_list-closed : IsClosed g (distance_list g sources)
  distance_list-closed = still_closed g lawful sources (distance_list g sources) ended.0 ended.1

  -- the law that ties the list to the relation
  pub distance_list-is : AreDistances g sources (distance_list g sources)
  distance_list-is =
      closed_are_distances g sources (distance_list g sources) ended.0.bounded.size ended.0.starts distance_list-closed ended.0.sums

  -- and any column of the distances is the list
  pub distance_list-unique : (dist : List ℕ) → AreDistances g sources dist → dist ≡ distance_list g sources
  distance_list-unique dist are = AreDistances-unique g sources dist (distance_list g sources) are distance_list-is

  -- a column that all edges relaxed some times give, and that relaxing them once more leaves as it is, has the distances
  pub relaxed_are_distances : (k : ℕ) (dist : List ℕ) → relaxed_times g k (first_numbers (vertices g) sources) ≡ dist → relaxed_all g (all_edges g) dist ≡ dist → AreDistances g sources dist
  relaxed_are_distances k dist is stays =
      let held : All (Held g) (all_edges g) = held_from g lawful 0 (vertices g) (omega arith) in
      let t : IsTentative g sources dist = subst (IsTentative g sources) is (times_tentative g lawful sources held k (first_numbers (vertices g) sources) (first_tentative g sources within)) in
      let still : All (IsStill g dist) (all_edges g) = elim (relaxed_some g lawful sources (all_edges g) dist held t).1 [
        | inl same ↦ same.1
        | inr falls ↦ absurd (omega (arith, falls, ap sum stays))
      ] in
      closed_are_distances g sources dist t.bounded.size t.starts (still_closed g lawful sources dist t still) t.sums

-- ---- how great the distances are

module _ (g : RawGraph) (lawful : IsLawful g) (sources : List ℕ) (within : All (λ s. s < vertices g) sources) where
  pub distance_list-small : (v : ℕ) → v < vertices g → get_or (distance_list g sources) v 0 ≢ NONE → get_or (distance_list g sources) v 0 ≤ MAX_N * MAX_W
  distance_list-small v lt some = bounded-le g lawful (distance_list g sources) (distance_list-tentative g lawful sources within).bounded v lt some

  pub distance_list-le : (v : ℕ) → v < vertices g → get_or (distance_list g sources) v 0 ≤ NONE
  distance_list-le v lt = bounded-le-none g lawful (distance_list g sources) (distance_list-tentative g lawful sources within).bounded v lt

  -- no place lowers a distance
  pub distance_list-place : (u p x : ℕ) → IsPlaceOf g u p → get_or (distance_list g sources) u 0 ≤ x → x + weight g p < NONE →
      get_or (distance_list g sources) (target g p) 0 ≤ x + weight g p
  distance_list-place u p x at low small_enough =
      let dist : List ℕ = distance_list g sources in
      let some : get_or dist u 0 ≢ NONE = λ none. absurd (omega (arith, none, low, small_enough)) in
      omega (arith, (distance_list-closed g lawful sources within u p at some).1, low)
