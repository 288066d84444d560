-- The moves of a round: they set the place of each vertex counted that is in a bucket, and no other.
use Rattle.std.proofs.Common.{suc, ◌≡◌, ◌≢◌, ℕ, ◌-◌, ◌<◌, max, true, false, eqb, List, [], ◌∷◌, length, get_or, set, sym, ◌∙◌, ap, refl, arith, inl, inr}
use Rattle.std.specs.List.{All}
use Rattle.std.proofs.lemmas.Bool.{cases_Bool, cond-true, cond-false, or_cases, or_parts, eqb-true, eqb-false, ne_eqb, false_from_ne_true}
use Rattle.std.proofs.lemmas.List.{get_or-set_same, get_or-set_other, length-set}
use Rattle.std.proofs.lemmas.List.Elements.{All-head, All-tail}
use Rattle.jul_base.specs.declared.limits.TheConstants.{NONE}
use Rattle.jul_base.specs.Sets.{has}
use Rattle.jul_core.specs.PeelMoves.{moves_of}
use Rattle.jul_base.proofs.SetLaws.{Contains-from_has}
use Rattle.jul_count.specs.Counts.{counted, AreApart}
use Rattle.jul_bucket.specs.Places.{set_places}

-- the moves of a longer list, where the first is in no bucket and where it is in one
pub moves-none : (now : List ℕ) (bucket : ℕ) (e : ℕ × ℕ) (es : List (ℕ × ℕ)) → eqb (get_or now e.0 0) NONE ≡ true →
    moves_of now bucket (e ∷ es) ≡ moves_of now bucket es
moves-none now bucket e es none = cond-true _ _ _ none

pub moves-some : (now : List ℕ) (bucket : ℕ) (e : ℕ × ℕ) (es : List (ℕ × ℕ)) → eqb (get_or now e.0 0) NONE ≡ false →
    moves_of now bucket (e ∷ es) ≡ (e.0, max bucket (get_or now e.0 0 - e.1)) ∷ moves_of now bucket es
moves-some now bucket e es some = cond-false _ _ _ some

pub length-set_places : (places : List ℕ) (moves : List (ℕ × ℕ)) → length (set_places places moves) ≡ length places
length-set_places places [] = refl
length-set_places places (m ∷ ms) = length-set_places (set places m.0 m.1) ms ∙ length-set places m.0 m.1

-- who isn't counted, or is in no bucket, keeps the place
pub set-other : (now : List ℕ) (bucket : ℕ) (counts : List (ℕ × ℕ)) (places : List ℕ) (v : ℕ) → has (counted counts) v ≡ false →
    get_or (set_places places (moves_of now bucket counts)) v 0 ≡ get_or places v 0
set-other now bucket [] places v absent = refl
set-other now bucket (e ∷ es) places v absent =
    let parts : (eqb e.0 v ≡ false) × (has (counted es) v ≡ false) = or_parts (eqb e.0 v) (has (counted es) v) absent in
    elim (cases_Bool (eqb (get_or now e.0 0) NONE)) [
      | inl none ↦ ap (λ ms. get_or (set_places places ms) v 0) (moves-none now bucket e es none) ∙ set-other now bucket es places v parts.1
      | inr some ↦
          let x : ℕ = max bucket (get_or now e.0 0 - e.1) in
          let apart : v ≢ e.0 = λ same. eqb-false e.0 v parts.0 (sym same) in
          ap (λ ms. get_or (set_places places ms) v 0) (moves-some now bucket e es some)
          ∙ set-other now bucket es (set places e.0 x) v parts.1
          ∙ get_or-set_other places e.0 v x 0 apart
    ]

pub set-none : (now : List ℕ) (bucket : ℕ) (counts : List (ℕ × ℕ)) (places : List ℕ) (v : ℕ) → get_or now v 0 ≡ NONE →
    get_or (set_places places (moves_of now bucket counts)) v 0 ≡ get_or places v 0
set-none now bucket [] places v gone = refl
set-none now bucket (e ∷ es) places v gone =
    elim (cases_Bool (eqb (get_or now e.0 0) NONE)) [
      | inl none ↦ ap (λ ms. get_or (set_places places ms) v 0) (moves-none now bucket e es none) ∙ set-none now bucket es places v gone
      | inr some ↦
          let x : ℕ = max bucket (get_or now e.0 0 - e.1) in
          let apart : v ≢ e.0 = λ same. eqb-false (get_or now e.0 0) NONE some (ap (λ k. get_or now k 0) (sym same) ∙ gone) in
          ap (λ ms. get_or (set_places places ms) v 0) (moves-some now bucket e es some)
          ∙ set-none now bucket es (set places e.0 x) v gone
          ∙ get_or-set_other places e.0 v x 0 apart
    ]

-- who is counted and in a bucket gets the new place
pub set-here : (f : ℕ → ℕ) (now : List ℕ) (bucket : ℕ) (counts : List (ℕ × ℕ)) (places : List ℕ) (v : ℕ) →
    AreApart (counted counts) → All (λ (e : ℕ × ℕ). e.1 ≡ f e.0) counts → has (counted counts) v ≡ true →
    (get_or now v 0 ≡ NONE → ⊥) → v < length places →
    get_or (set_places places (moves_of now bucket counts)) v 0 ≡ max bucket (get_or now v 0 - f v)
set-here f now bucket [] places v apart exact held some v_lt = absurd (cc)
set-here f now bucket (e ∷ es) places v apart exact held some v_lt =
    let x : ℕ = max bucket (get_or now e.0 0 - e.1) in
    let apart' : AreApart (counted es) = λ i j d lt in'. apart (suc i) (suc j) d (omega arith) (omega arith) in
    let exact' : All (λ (e : ℕ × ℕ). e.1 ≡ f e.0) es = All-tail (λ (e : ℕ × ℕ). e.1 ≡ f e.0) e es exact in
    let here : e.1 ≡ f e.0 = All-head (λ (e : ℕ × ℕ). e.1 ≡ f e.0) e es exact in
    elim (or_cases (eqb e.0 v) (has (counted es) v) held) [
      | inl now_here ↦
          let same : e.0 ≡ v = eqb-true e.0 v now_here in
          let in_bucket : eqb (get_or now e.0 0) NONE ≡ false = ne_eqb _ _ (λ none. some (ap (λ k. get_or now k 0) (sym same) ∙ none)) in
          let absent : has (counted es) v ≡ false =
          false_from_ne_true _ (λ later.
          let (k, lt, there) = Contains-from_has (counted es) v later in
          apart 0 (suc k) v (omega arith) (omega arith) (same ∙ sym there)) in
          let at : e.0 < length places = omega arith in
          let read : get_or (set places e.0 x) v 0 ≡ x = ap (λ k. get_or (set places e.0 x) k 0) (sym same) ∙ get_or-set_same places e.0 x 0 at in
          ap (λ ms. get_or (set_places places ms) v 0) (moves-some now bucket e es in_bucket)
          ∙ set-other now bucket es (set places e.0 x) v absent
          ∙ read
          ∙ omega (arith, here, ap f same, ap (λ k. get_or now k 0) same)
      | inr later ↦
          elim (cases_Bool (eqb (get_or now e.0 0) NONE)) [
            | inl none ↦
                ap (λ ms. get_or (set_places places ms) v 0) (moves-none now bucket e es none)
                ∙ set-here f now bucket es places v apart' exact' later some v_lt
            | inr first_some ↦
                ap (λ ms. get_or (set_places places ms) v 0) (moves-some now bucket e es first_some)
                ∙ set-here f now bucket es (set places e.0 x) v apart' exact' later some (omega (arith, length-set places e.0 x))
          ]
    ]
