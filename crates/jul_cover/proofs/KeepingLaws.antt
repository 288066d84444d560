-- What the calls of a turn over packed sets ask for, and who stands among winners and holders.
use Rattle.std.proofs.Common.{◌≡◌, ℕ, ◌<◌, Bool, List, [], ◌∷◌, refl, sym, ap, subst, arith, inl, inr}
use Rattle.std.specs.Prelude.{◌↔◌, Option, Some, None}
use Rattle.std.specs.List.{find, flat_map, All, Contains}
use Rattle.std.proofs.lemmas.Bool.{cases_Bool, cond-true, cond-false}
use Rattle.std.proofs.lemmas.List.Elements.{All-nil, All-cons, All-head, All-tail, All-append, Contains-append_cases, Contains-append_left, Contains-append_right}
use Rattle.jul_base.specs.InRows.{InEdges}
use Rattle.jul_base.proofs.SetLaws.{Contains-cons, Contains-cons_cases}
use Rattle.jul_cover.specs.declared.packed_sets.PackedSets.{PackedSets}
use Rattle.jul_cover.specs.PackedSets.{pack_at, ArePacked, HasPacked}
use Rattle.jul_cover.specs.Keeping.{AreWithin, holders_at, is_large, winner_in, listed, winners_of, holders_of}
use Rattle.jul_cover.specs.KeptTurns.{AreAllOpen}

-- ---- lists of parts

all_parts : (n : ℕ) (f : ℕ → List ℕ) (xs : List ℕ) → All (λ x. x < n) xs → ((x : ℕ) → x < n → All (λ y. y < n) (f x)) → All (λ y. y < n) (flat_map f xs)
all_parts n f [] within each = All-nil (λ y. y < n)
all_parts n f (x ∷ xs) within each =
    All-append (λ y. y < n) (f x) (flat_map f xs) (each x (All-head (λ y. y < n) x xs within)) (all_parts n f xs (All-tail (λ y. y < n) x xs within) each)

listed_in : (n : ℕ) (p : ℕ → Bool) (xs : List ℕ) → All (λ x. x < n) xs → All (λ x. x < n) (listed (find p xs))
listed_in n p [] within = All-nil (λ y. y < n)
listed_in n p (x ∷ xs) within =
    elim (cases_Bool (p x)) [
      | inl here ↦
          subst (λ (o : Option ℕ). All (λ y. y < n) (listed o)) (sym (cond-true (p x) (Some x) (find p xs) here)) (All-cons (λ y. y < n) x [] (All-head (λ y. y < n) x xs within) (All-nil (λ y. y < n)))
      | inr fails ↦
          subst (λ (o : Option ℕ). All (λ y. y < n) (listed o)) (sym (cond-false (p x) (Some x) (find p xs) fails)) (listed_in n p xs (All-tail (λ y. y < n) x xs within))
    ]

-- what stands in a list of parts stands in a part
pub part_from : {Y : Type 0} (f : ℕ → List Y) (xs : List ℕ) (y : Y) → Contains (flat_map f xs) y → (x : ℕ) × Contains xs x × Contains (f x) y
part_from f [] y (k, lt, is) = absurd (omega (arith, lt))
part_from f (x ∷ xs) y there =
    elim (Contains-append_cases (f x) (flat_map f xs) y there) [
      | inl here ↦ (x, (0, omega arith, refl), here)
      | inr later ↦ let (z, in_xs, held) = part_from f xs y later in (z, Contains-cons x xs z in_xs, held)
    ]

pub part_to : {Y : Type 0} (f : ℕ → List Y) (xs : List ℕ) (x : ℕ) (y : Y) → Contains xs x → Contains (f x) y → Contains (flat_map f xs) y
part_to f [] x y (k, lt, is) held = absurd (omega (arith, lt))
part_to f (z ∷ xs) x y there held =
    elim (Contains-cons_cases z xs x there) [
      | inl same ↦ Contains-append_left (f z) (flat_map f xs) y (subst (λ k. Contains (f k) y) (sym same) held)
      | inr later ↦ Contains-append_right (f z) (flat_map f xs) y (part_to f xs x y later held)
    ]

pub empty_from : (xs : List ℕ) → ((x : ℕ) → Contains xs x → ⊥) → xs ≡ []
empty_from [] none = refl
empty_from (x ∷ xs) none = absurd (none x (0, omega arith, refl))

listed-from : (o : Option ℕ) (x : ℕ) → Contains (listed o) x → o ≡ Some x
listed-from None x (k, lt, is) = absurd (omega (arith, lt))
listed-from (Some y) x there =
    elim (Contains-cons_cases y [] x there) [
      | inl same ↦ ap Some same
      | inr (k, lt, is) ↦ absurd (omega (arith, lt))
    ]

listed-to : (o : Option ℕ) (x : ℕ) → o ≡ Some x → Contains (listed o) x
listed-to o x is = subst (λ (r : Option ℕ). Contains (listed r) x) (sym is) (0, omega arith, refl)

-- the same members, under another name of the list
pub same_members : (xs ys zs : List ℕ) → ((x : ℕ) → Contains xs x ↔ Contains ys x) → ys ≡ zs → (x : ℕ) → Contains xs x ↔ Contains zs x
same_members xs ys zs same is = subst (λ l. (x : ℕ) → Contains xs x ↔ Contains l x) is same

-- sets of which nothing is covered are packed as they are
pub packed_already : (by : List ℕ) (p : PackedSets) → ArePacked p → AreAllOpen by p → (drawn : List ℕ) → HasPacked by drawn p p
packed_already by p well all_open drawn = record { n = refl; packed = well; here = λ x lt there. sym (all_open x lt); other = λ x lt other. refl }

-- ---- winners and holders

module _ (pack : ℕ → List ℕ) (edges : InEdges) where
  pub winners-from : (b : ℕ) (sets : List ℕ) (x : ℕ) → Contains (winners_of pack edges b sets) x → (s : ℕ) × (e : ℕ) × Contains sets s × Contains (pack s) e × (winner_in pack edges b e ≡ Some x)
  winners-from b sets x there =
      let (s, in_sets, part) = part_from (λ s. flat_map (λ e. listed (winner_in pack edges b e)) (pack s)) sets x there in
      let (e, in_pack, one) = part_from (λ e. listed (winner_in pack edges b e)) (pack s) x part in
      (s, e, in_sets, in_pack, listed-from (winner_in pack edges b e) x one)

  pub winners-to : (b : ℕ) (sets : List ℕ) (s e x : ℕ) → Contains sets s → Contains (pack s) e → winner_in pack edges b e ≡ Some x → Contains (winners_of pack edges b sets) x
  winners-to b sets s e x in_sets in_pack is =
      part_to (λ s. flat_map (λ e. listed (winner_in pack edges b e)) (pack s)) sets s x in_sets
      (part_to (λ e. listed (winner_in pack edges b e)) (pack s) e x in_pack (listed-to (winner_in pack edges b e) x is))

  pub holders-to : (sets : List ℕ) (s e x : ℕ) → Contains sets s → Contains (pack s) e → Contains (holders_at edges e) x → Contains (holders_of pack edges sets) x
  holders-to sets s e x in_sets in_pack held =
      part_to (λ s. flat_map (holders_at edges) (pack s)) sets s x in_sets (part_to (holders_at edges) (pack s) e x in_pack held)

module _ (p : PackedSets) (well : ArePacked p) (edges : InEdges) (within : AreWithin p.n edges) where
  pub holders_in : (sets : List ℕ) → All (λ s. s < p.n) sets → All (λ s. s < p.n) (holders_of (pack_at p) edges sets)
  holders_in sets in_range =
      all_parts p.n (λ s. flat_map (holders_at edges) (pack_at p s)) sets in_range (λ s lt. all_parts p.n (holders_at edges) (pack_at p s) (well.within s lt) within.each)

  pub winners_in : (b : ℕ) (sets : List ℕ) → All (λ s. s < p.n) sets → All (λ s. s < p.n) (winners_of (pack_at p) edges b sets)
  winners_in b sets in_range =
      all_parts p.n (λ s. flat_map (λ e. listed (winner_in (pack_at p) edges b e)) (pack_at p s)) sets in_range
      (λ s lt. all_parts p.n (λ e. listed (winner_in (pack_at p) edges b e)) (pack_at p s) (well.within s lt) (λ e e_lt. listed_in p.n (is_large (pack_at p) b) (holders_at edges e) (within.each e e_lt)))
