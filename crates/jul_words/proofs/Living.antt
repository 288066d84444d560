-- The live seats of a table: their homes, how many they are, and what they logged together.
use Rattle.std.proofs.Common.{◌≡◌, ℕ, zero, suc, ◌+◌, ◌≢◌, true, false, true≢false, List, [], ◌∷◌, length, cond, drop, set, sym, refl, ap, ◌∙◌, subst, ⊎_elim, arith}
use Rattle.std.specs.Prelude.{All, slice_index}
use Rattle.std.proofs.lemmas.Grind.{get_or_after_one}
use Rattle.std.proofs.lemmas.Bool.{cases_Bool, cond-true, cond-false}
use Rattle.std.proofs.lemmas.List.Elements.{All-nil, All-cons}
use mathlib.Core.Option.{some}
use lib.ListN.{get_elem?}
use Rattle.atomic_table.proofs.Lists.{at_set}
use Rattle.jul_base.specs.Logs.{Entry, Home}
use Rattle.jul_words.specs.Weights.{counted, weigh, HasSameEntries}
use Rattle.jul_words.specs.Seats.{Seat, home, named, all_entries, roots, AreKin}
use Rattle.jul_words.specs.Views.{View, spent, total, present, heads, live_seats, Kin}
use Rattle.jul_words.proofs.Sums.{weigh-append, total-set}
use Rattle.jul_words.proofs.Kinship.{one_present}

-- the word of v is word v + 1 of the table
pub word_after_one : (words : List ℕ) (v : ℕ) → slice_index (drop 1 words) v ≡ slice_index words (v + 1)
word_after_one words v = let same : 1 + v ≡ v + 1 = omega arith in get_or_after_one words v 0 ∙ ap (slice_index words) same

module _ (table : List ℕ) where
  live_here : (v : View) (vs : List View) → v.live ≡ true → live_seats table (v ∷ vs) ≡ named table v.seat ∷ live_seats table vs
  live_here v vs e = cond-true v.live _ _ e

  live_else : (v : View) (vs : List View) → v.live ≡ false → live_seats table (v ∷ vs) ≡ live_seats table vs
  live_else v vs e = cond-false v.live _ _ e

  pub count_live : (views : List View) → length (live_seats table views) ≡ total present views
  count_live [] = refl
  count_live (v ∷ vs) = let r = count_live vs in ⊎_elim
      (λ (l : v.live ≡ true). omega (arith, ap length (live_here v vs l), one_present v l))
      (λ (f : v.live ≡ false). let none : present v ≡ 0 = ap (λ b. cond b 1 0) f in omega (arith, ap length (live_else v vs f)))
      (cases_Bool v.live)

  pub entries_live : (f : Entry → ℕ) (views : List View) → ((j : ℕ) (u : View) → get_elem? views j ≡ some u → u.live ≡ false → u.seat.log ≡ []) → weigh f (all_entries (live_seats table views)) ≡ total (λ v. weigh f v.seat.log) views
  entries_live f [] empty = refl
  entries_live f (v ∷ vs) empty = let r = entries_live f vs (λ j u e. empty (suc j) u e) in ⊎_elim
      (λ (l : v.live ≡ true). omega (arith, ap (λ ss. weigh f (all_entries ss)) (live_here v vs l), weigh-append f v.seat.log (all_entries (live_seats table vs))))
      (λ (d : v.live ≡ false). omega (arith, ap (λ ss. weigh f (all_entries ss)) (live_else v vs d), ap (weigh f) (empty zero v refl d)))
      (cases_Bool v.live)

  pub roots_live : (views : List View) → ((j : ℕ) (u : View) → get_elem? views j ≡ some u → u.live ≡ false → u.seat.root ≡ false) → roots (live_seats table views) ≡ total heads views
  roots_live [] part = refl
  roots_live (v ∷ vs) part = let r = roots_live vs (λ j u e. part (suc j) u e) in ⊎_elim
      (λ (l : v.live ≡ true). omega (arith, ap roots (live_here v vs l)))
      (λ (d : v.live ≡ false). omega (arith, ap roots (live_else v vs d), ap counted (part zero v refl d)))
      (cases_Bool v.live)

  pub all_live : (P : Seat → Type 0) (views : List View) → ((j : ℕ) (u : View) → get_elem? views j ≡ some u → u.live ≡ true → P (named table u.seat)) → All P (live_seats table views)
  all_live P [] each = All-nil P
  all_live P (v ∷ vs) each = let r = all_live P vs (λ j u e. each (suc j) u e) in ⊎_elim
      (λ (l : v.live ≡ true). subst (All P) (sym (live_here v vs l)) (All-cons P _ _ (each zero v refl l) r))
      (λ (d : v.live ≡ false). subst (All P) (sym (live_else v vs d)) r)
      (cases_Bool v.live)

module _ (h : Home) (views : List View) (history : List Entry) (k : Kin h views history) (table : List ℕ) where
  -- the live seats together have the entries of the history
  pub live_entries : HasSameEntries (all_entries (live_seats table views)) history
  live_entries f = entries_live table f views (λ j u e d. ((k.stands j u e).is_spent d).1) ∙ k.logged f

  -- every live seat has the home, and the one root among them counts the others
  pub live_kin : AreKin (home table h.starts h.floors) (live_seats table views)
  live_kin =
      let all = live_seats table views in record {
        homes = all_live table (λ s. s.home ≡ home table h.starts h.floors) views (λ j u e l. ap (λ (g : Home). home table g.starts g.floors) ((k.stands j u e).at_home l));
        one_root = roots_live table views (λ j u e d. ((k.stands j u e).is_spent d).0) ∙ k.one_root;
        out = all_live table (λ s. s.root ≡ true → length all ≡ s.out + 1) views (λ j u e l r. count_live table views ∙ ((k.stands j u e).is_root r).1);
      }

module _ (h : Home) (views : List View) (history : List Entry) (k : Kin h views history) (i : ℕ) (v : View) (at : get_elem? views i ≡ some v) (live : v.live ≡ true) (table : List ℕ) where
  -- the live seats but this one
  abbrev pub others : List Seat
  others = live_seats table (set views i spent)

  was : (j : ℕ) (u : View) → get_elem? (set views i spent) j ≡ some u → u.live ≡ true → get_elem? views j ≡ some u
  was j u e l = ⊎_elim
      (λ (x : (j ≡ i) × (spent ≡ u)). absurd (true≢false (sym l ∙ sym (ap (λ (y : View). y.live) x.1))))
      (λ (x : (j ≢ i) × (get_elem? views j ≡ some u)). x.1)
      (at_set views i j spent u e)

  empty : (j : ℕ) (u : View) → get_elem? (set views i spent) j ≡ some u → u.live ≡ false → u.seat.log ≡ []
  empty j u e d = ⊎_elim
      (λ (x : (j ≡ i) × (spent ≡ u)). sym (ap (λ (y : View). y.seat.log) x.1))
      (λ (x : (j ≢ i) × (get_elem? views j ≡ some u)). ((k.stands j u x.1).is_spent d).1)
      (at_set views i j spent u e)

  part : (j : ℕ) (u : View) → get_elem? (set views i spent) j ≡ some u → u.live ≡ false → u.seat.root ≡ false
  part j u e d = ⊎_elim
      (λ (x : (j ≡ i) × (spent ≡ u)). sym (ap (λ (y : View). y.seat.root) x.1))
      (λ (x : (j ≢ i) × (get_elem? views j ≡ some u)). ((k.stands j u x.1).is_spent d).0)
      (at_set views i j spent u e)

  count_others : length (named table v.seat ∷ others) ≡ total present views
  count_others = omega (arith, count_live table (set views i spent), total-set present views i v spent at, one_present v live)

  pub others_entries : HasSameEntries (all_entries (named table v.seat ∷ others)) history
  others_entries f = omega (arith, weigh-append f v.seat.log (all_entries others), entries_live table f (set views i spent) empty, total-set (λ u. weigh f u.seat.log) views i v spent at, k.logged f)

  -- these with this one have the home, and the one root among them counts the others
  pub others_kin : AreKin (home table h.starts h.floors) (named table v.seat ∷ others)
  others_kin =
      let mine = named table v.seat in let all = mine ∷ others in let AtHome : Seat → Type 0 = λ s. s.home ≡ home table h.starts h.floors in let Counts : Seat → Type 0 = λ s. s.root ≡ true → length all ≡ s.out + 1 in
      let at_home : (j : ℕ) (u : View) → get_elem? views j ≡ some u → u.live ≡ true → home table u.seat.home.starts u.seat.home.floors ≡ home table h.starts h.floors = λ j u e l. ap (λ (g : Home). home table g.starts g.floors) ((k.stands j u e).at_home l) in
      let counts : (j : ℕ) (u : View) → get_elem? views j ≡ some u → u.seat.root ≡ true → length all ≡ u.seat.out + 1 = λ j u e r. count_others ∙ ((k.stands j u e).is_root r).1 in record {
        homes = All-cons AtHome mine others (at_home i v at live) (all_live table AtHome (set views i spent) (λ j u e l. at_home j u (was j u e l) l));
        one_root = omega (arith, roots_live table (set views i spent) part, total-set heads views i v spent at, k.one_root);
        out = All-cons Counts mine others (counts i v at) (all_live table Counts (set views i spent) (λ j u e l. counts j u (was j u e l)));
      }
