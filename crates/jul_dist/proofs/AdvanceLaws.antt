-- A round keeps what a search keeps, and where no vertex has a place the numbers are the distances.
use Rattle.std.proofs.Common.{◌≡◌, ◌≢◌, ◌⊎◌, ℕ, ◌+◌, ◌*◌, ◌/◌, ◌<◌, ◌≤◌, List, [], ◌∷◌, ◌++◌, length, get_or, refl, sym, ap, ◌∙◌, subst, arith, inl, inr, append_assoc}
use Rattle.std.specs.List.{Contains, All}
use Rattle.std.proofs.lemmas.Bool.{cases_eq, cases_lt}
use Rattle.std.proofs.lemmas.Nat.{div-add-mod', le-div}
use Rattle.std.proofs.Math.Nat.{mul-le-mul_left}
use Rattle.std.proofs.lemmas.List.Elements.{All-nil, All-cons, All-append, All-contains, Contains-get_or, All-from_get_or}
use Rattle.jul_base.specs.declared.graphs.RawGraph.{RawGraph}
use Rattle.jul_base.specs.declared.limits.TheConstants.{NONE}
use Rattle.jul_base.specs.Graph.{vertices, target, weight, IsLawful}
use Rattle.jul_base.specs.DistanceList.{distance_list}
use Rattle.jul_base.proofs.GraphLaws.{place_in_range, target_in_range}
use Rattle.jul_base.proofs.SetLaws.{member_cases}
use Rattle.jul_base.proofs.DistanceListLaws.{distance_list-place}
use Rattle.jul_base.proofs.CappedLaws.{capped_are_distances}
use Rattle.jul_words.specs.Seats.{Seat}
use Rattle.jul_dist.specs.declared.limits.TheConstants.{MAX_SUM}
use Rattle.jul_words.specs.Least.{word_of}
use Rattle.jul_dist.specs.Relaxing.{IsOffered, HasRelaxed, AreAboveFloors}
use Rattle.jul_bucket.specs.declared.draws.Draw.{Draw}
use Rattle.jul_dist.specs.Draws.{IsLastDraw}
use Rattle.jul_dist.specs.Advancing.{IsAdvancing}

-- ---- numbers

div_mul-le : (x k : ℕ) → x / k * k ≤ x
div_mul-le x k = omega (arith, div-add-mod' x k)

pub div-le : (x k : ℕ) → 1 ≤ k → x / k ≤ x
div-le x k some =
    let most : x / k * 1 ≤ x / k * k = mul-le-mul_left (x / k) some in
    omega (arith, most, div_mul-le x k)

-- ---- draws

-- a draw of v is the last one
pub last_now : (draws : List Draw) (d : Draw) (v b : ℕ) → Contains d.ids v → d.bucket ≡ b → IsLastDraw (draws ++ d ∷ []) v b
last_now draws d v b holds is = record { before = draws; draw = d; after = []; draws_are = refl; holds = holds; bucket_is = is; last = All-nil (λ (e : Draw). Contains e.ids v → ⊥) }

-- the last draw stays the last where v isn't drawn
pub last_still : (draws : List Draw) (d : Draw) (v b : ℕ) → (Contains d.ids v → ⊥) → IsLastDraw draws v b → IsLastDraw (draws ++ d ∷ []) v b
last_still draws d v b other h = record {
  before = h.before;
  draw = h.draw;
  after = h.after ++ d ∷ [];
  draws_are = ap (λ l. l ++ d ∷ []) h.draws_are ∙ append_assoc h.before (h.draw ∷ h.after) (d ∷ []);
  holds = h.holds;
  bucket_is = h.bucket_is;
  last = All-append (λ (e : Draw). Contains e.ids v → ⊥) h.after (d ∷ []) h.last (All-cons (λ (e : Draw). Contains e.ids v → ⊥) d [] other (All-nil (λ (e : Draw). Contains e.ids v → ⊥)));
}

-- the ids are those whose place is b
abbrev pub AreIn : List ℕ → ℕ → List ℕ → Type 0
AreIn places b ids = (v : ℕ) → (Contains ids v → (v < length places) × (get_or places v 0 ≡ b)) × (v < length places → get_or places v 0 ≡ b → Contains ids v)

-- what a round does to places: those drawn have none, and each vertex whose number fell has that of the new one
pub record ArePlaced (delta : ℕ) (ids values values' places places' : List ℕ) : Type 0 where
  pub fell : (v : ℕ) → v < length values → get_or values' v 0 < get_or values v 0 → get_or places' v 0 ≡ get_or values' v 0 / delta
  pub taken : (v : ℕ) → v < length values → get_or values' v 0 ≡ get_or values v 0 → Contains ids v → get_or places' v 0 ≡ NONE
  pub same : (v : ℕ) → v < length values → get_or values' v 0 ≡ get_or values v 0 → (Contains ids v → ⊥) → get_or places' v 0 ≡ get_or places v 0

-- ---- before a round

module _ (g : RawGraph) (lawful : IsLawful g) (sources : List ℕ) (sources_in : All (λ s. s < vertices g) sources) (delta : ℕ) (some_delta : 1 ≤ delta) (values places : List ℕ) (draws : List Draw) (h : IsAdvancing g sources delta values places draws) (b : ℕ) (ids : List ℕ) (in_bucket : b ≢ NONE) (are_in : AreIn places b ids) where
  drawn_in : (v : ℕ) → Contains ids v → v < vertices g
  drawn_in v there = omega (arith, ((are_in v).0 there).0, h.places_size)

  -- a vertex that is drawn has a number of the bucket
  drawn_number : (v : ℕ) → Contains ids v → (get_or values v 0 ≢ NONE) × (b ≡ get_or values v 0 / delta)
  drawn_number v there =
      let at : get_or places v 0 ≡ b = ((are_in v).0 there).1 in
      let p : (get_or values v 0 ≢ NONE) × (get_or places v 0 ≡ get_or values v 0 / delta) = h.in_place v (drawn_in v there) (λ none. in_bucket (sym at ∙ none)) in
      (p.0, sym at ∙ p.1)

  -- it isn't below the bucket's least number
  pub drawn_ahead : (v : ℕ) → Contains ids v → b * delta ≤ get_or values v 0
  drawn_ahead v there = omega (arith, ap (λ x. x * delta) (drawn_number v there).1, div_mul-le (get_or values v 0) delta)

  pub all_ahead : All (λ v. b * delta ≤ get_or values v 0) ids
  all_ahead = All-from_get_or (λ v. b * delta ≤ get_or values v 0) ids 0 (λ k lt. drawn_ahead (get_or ids k 0) (Contains-get_or ids k 0 lt))

  pub bucket_small : (v : ℕ) → Contains ids v → b * delta ≤ MAX_SUM
  bucket_small v there = omega (arith, drawn_ahead v there, h.within v (drawn_in v there) (drawn_number v there).0)

  -- what it offers is no less than the target's distance
  pub above_floors : (home : Seat) → home.home.floors ≡ distance_list g sources → AreAboveFloors g ids values home.home
  above_floors home floors u p at there few =
      let low : get_or (distance_list g sources) u 0 ≤ get_or values u 0 = h.floors u at.vertex in
      let most : MAX_SUM < NONE = omega arith in
      let place : get_or (distance_list g sources) (target g p) 0 ≤ get_or values u 0 + weight g p =
      distance_list-place g lawful sources sources_in u p (get_or values u 0) at low (omega (arith, few, most)) in
      omega (arith, ap (λ l. get_or l (target g p) 0) floors, place)

  -- ---- after it
  module _ (old new : Seat) (lowered : List ℕ) (values' places' : List ℕ) (floors : old.home.floors ≡ distance_list g sources)
      (exact : (v : ℕ) → v < vertices g → word_of old v ≡ get_or values v 0)
      (exact' : (v : ℕ) → v < vertices g → word_of new v ≡ get_or values' v 0)
      (relaxed : HasRelaxed g ids values (b * delta) old new lowered)
      (size' : length values' ≡ vertices g) (places_size' : length places' ≡ vertices g) (moved : ArePlaced delta ids values values' places places') where
    falls : (v : ℕ) → v < vertices g → get_or values' v 0 ≤ get_or values v 0
    falls v lt = omega (arith, relaxed.falls v, exact v lt, exact' v lt)

    -- a vertex has the number that it had, or a new one that was offered
    abbrev Was : ℕ → Type 0
    Was v = (get_or values' v 0 ≡ get_or values v 0) ⊎ ((get_or values' v 0 < get_or values v 0) × IsOffered g ids values v (get_or values' v 0))

    was : (v : ℕ) → v < vertices g → Was v
    was v lt = elim (cases_lt (get_or values' v 0) (get_or values v 0)) [
      | inr same ↦ inl (omega (arith, same, falls v lt))
      | inl fell ↦ inr (fell, subst (IsOffered g ids values v) (exact' v lt) (relaxed.fell v lt (omega (arith, fell, exact v lt, exact' v lt))).1)
    ]

    new_place : (v : ℕ) → v < vertices g → get_or values' v 0 < get_or values v 0 → get_or values' v 0 ≤ MAX_SUM → (get_or places' v 0 ≢ NONE) × (get_or places' v 0 ≡ get_or values' v 0 / delta)
    new_place v lt fell few =
        let is : get_or places' v 0 ≡ get_or values' v 0 / delta = moved.fell v (omega (arith, lt, h.size)) fell in
        (λ none. absurd (omega (arith, none, is, few, div-le (get_or values' v 0) delta some_delta)), is)

    pub advances : IsAdvancing g sources delta values' places' (draws ++ (record { bucket = b; ids = ids }) ∷ [])
    advances = record {
      size = size';
      places_size = places_size';
      starts = λ s there. omega (arith, h.starts s there, falls s (All-contains (λ s. s < vertices g) sources s sources_in there));
      floors = λ v lt. omega (arith, relaxed.floors v lt, exact' v lt, ap (λ l. get_or l v 0) floors);
      within = λ v lt some. elim (was v lt) [
        | inl same ↦ omega (arith, same, h.within v lt (λ none. some (same ∙ none)))
        | inr (fell, offered) ↦ offered.within
      ];
      in_place = λ v lt some. elim (was v lt) [
        | inl same ↦ elim (member_cases ids v) [
          | inl there ↦ absurd (some (moved.taken v (omega (arith, lt, h.size)) same there))
          | inr other ↦
              let is : get_or places' v 0 ≡ get_or places v 0 = moved.same v (omega (arith, lt, h.size)) same other in
              let before : (get_or values v 0 ≢ NONE) × (get_or places v 0 ≡ get_or values v 0 / delta) = h.in_place v lt (λ none. some (is ∙ none)) in
              (λ none. before.0 (sym same ∙ none), is ∙ before.1 ∙ ap (λ x. x / delta) (sym same))
        ]
        | inr (fell, offered) ↦
            (λ none. absurd (omega (arith, none, offered.within)), (new_place v lt fell offered.within).1)
      ];
      closed = λ u p at none few.
          let to_in : target g p < vertices g = target_in_range g lawful p (place_in_range g lawful u p at) in
          elim (was u at.vertex) [
            | inr (fell, offered) ↦ absurd ((new_place u at.vertex fell offered.within).0 none)
            | inl same ↦ elim (member_cases ids u) [
              | inl there ↦ elim (cases_lt (b * delta) (get_or values (target g p) 0)) [
                | inl more ↦ omega (arith, same, exact' (target g p) to_in, relaxed.reached u p at there more (omega (arith, few, same)))
                | inr less ↦ omega (arith, less, same, falls (target g p) to_in, drawn_ahead u there)
              ]
              | inr other ↦
                  let none_before : get_or places u 0 ≡ NONE = sym (moved.same u (omega (arith, at.vertex, h.size)) same other) ∙ none in
                  omega (arith, same, falls (target g p) to_in, h.closed u p at none_before (omega (arith, few, same)))
            ]
          ];
      drawn = λ v lt none some. elim (was v lt) [
        | inr (fell, offered) ↦ absurd ((new_place v lt fell offered.within).0 none)
        | inl same ↦
            let d : Draw = record { bucket = b; ids = ids } in
            subst (λ x. IsLastDraw (draws ++ d ∷ []) v (x / delta)) (sym same) (elim (member_cases ids v) [
              | inl there ↦ last_now draws d v (get_or values v 0 / delta) there (drawn_number v there).1
              | inr other ↦
                  let none_before : get_or places v 0 ≡ NONE = sym (moved.same v (omega (arith, lt, h.size)) same other) ∙ none in
                  last_still draws d v (get_or values v 0 / delta) other (h.drawn v lt none_before (λ n. some (same ∙ n)))
            ])
      ];
    }

    -- the new place of a vertex whose number fell isn't behind the bucket
    pub not_behind : (v : ℕ) → v < vertices g → get_or values' v 0 < get_or values v 0 → b ≤ get_or values' v 0 / delta
    not_behind v lt fell =
        let ahead : b * delta ≤ get_or values' v 0 = omega (arith, exact' v lt, exact v lt, relaxed.ahead v lt (omega (arith, fell, exact v lt, exact' v lt))) in
        le-div b (get_or values' v 0) delta some_delta ahead

-- ---- the end

pub ended : (g : RawGraph) → IsLawful g → (sources : List ℕ) → All (λ s. s < vertices g) sources → (delta : ℕ) (values places : List ℕ) (draws : List Draw) →
    IsAdvancing g sources delta values places draws → ((v : ℕ) → v < vertices g → get_or places v 0 ≡ NONE) → values ≡ distance_list g sources
ended g lawful sources sources_in delta values places draws h none =
    capped_are_distances g lawful sources sources_in values h.size h.starts
    (λ v lt. (h.floors v lt, elim (cases_eq (get_or values v 0) NONE) [ inl e ↦ omega (arith, e) | inr some ↦ omega (arith, h.within v lt some) ]))
    (λ u p at few. h.closed u p at (none u at.vertex) few)
