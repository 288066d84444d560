-- What the steps of a seat leave of the views, whatever the words mean.
use Rattle.std.proofs.Common.{◌≡◌, ℕ, zero, suc, ◌+◌, ◌<◌, ◌≤◌, ◌≢◌, true, false, true≢false, List, [], ◌∷◌, ◌++◌, set, sym, refl, ap, ◌∙◌, subst, ⊎_elim, arith}
use Rattle.std.proofs.lemmas.Bool.{cases_Bool}
use mathlib.Core.Option.{some, some-injective, some-ne-none}
use lib.ListN.{get_elem?}
use Rattle.atomic_table.proofs.Lists.{at_set, at_snoc}
use Rattle.jul_base.specs.Logs.{Entry, Home}
use Rattle.jul_words.specs.Weights.{weigh, counted}
use Rattle.jul_words.specs.Seats.{Seat, rooted, beside, logs, lent, joined, IsAlone}
use Rattle.jul_words.specs.Views.{View, lives, spent, total, present, heads, Stands, Kin}
use Rattle.jul_words.proofs.Sums.{weigh-append, total-append, total-set, terms_le, total-only, term_le}

off : false ≡ true → ⊥
off e = true≢false (sym e)

pub one_present : (v : View) → v.live ≡ true → present v ≡ 1
one_present v e = ap counted e

none_present : (v : View) → present v ≡ 0 → v.live ≡ false
none_present v e = ⊎_elim (λ (l : v.live ≡ true). absurd (omega (arith, one_present v l))) (λ f. f) (cases_Bool v.live)

recount : (h : Home) (n m j : ℕ) (u : View) → (u.seat.root ≡ true → n ≡ m) → Stands h n j u → Stands h m j u
recount h n m j u same s = record { at_home = s.at_home; is_spent = s.is_spent; is_root = λ r. ((s.is_root r).0, sym (same r) ∙ (s.is_root r).1) }

-- what stands of each view but one, and of the new view there
stands_set : (h : Home) (m : ℕ) (views : List View) (i : ℕ) (w : View) → ((j : ℕ) (u : View) → j ≢ i → get_elem? views j ≡ some u → Stands h m j u) → Stands h m i w
    → (j : ℕ) (u : View) → get_elem? (set views i w) j ≡ some u → Stands h m j u
stands_set h m views i w others mine j u e =
    ⊎_elim
    (λ (x : (j ≡ i) × (w ≡ u)). subst (λ (y : ℕ × View). Stands h m y.0 y.1) (λ k. (sym x.0 k, x.1 k)) mine)
    (λ (x : (j ≢ i) × (get_elem? views j ≡ some u)). others j u x.0 x.1)
    (at_set views i j w u e)

-- a live view that isn't the root's stands anywhere
stands_beside : (h : Home) (m j : ℕ) (s : Seat) → s.home ≡ h → s.root ≡ false → Stands h m j (lives s)
stands_beside h m j s at part = record { at_home = λ _. at; is_spent = λ f. absurd (true≢false f); is_root = λ r. absurd (off (sym part ∙ r)) }

stands_spent : (h : Home) (m j : ℕ) → Stands h m j spent
stands_spent h m j = record { at_home = λ f. absurd (off f); is_spent = λ _. (refl, refl); is_root = λ f. absurd (off f) }

pub begins : (h : Home) → Kin h (lives (rooted h) ∷ []) []
begins h = record { stands = one; one_root = refl; logged = λ f. refl }
  where
    one : (j : ℕ) (v : View) → get_elem? (lives (rooted h) ∷ []) j ≡ some v → Stands h 1 j v
    one zero v e = subst (λ (u : View). Stands h 1 0 u) (some-injective _ _ e) (record { at_home = λ _. refl; is_spent = λ f. absurd (true≢false f); is_root = λ _. (refl, refl) })
    one (suc j) v e = absurd (some-ne-none v (sym e))

module _ (h : Home) (views : List View) (history : List Entry) (k : Kin h views history) (i : ℕ) (v : View) (at : get_elem? views i ≡ some v) (live : v.live ≡ true) where
  pub homely : v.seat.home ≡ h
  homely = (k.stands i v at).at_home live

  -- the own log is part of the history
  pub own_le : (f : Entry → ℕ) → weigh f v.seat.log ≤ weigh f history
  own_le f = let a : weigh f v.seat.log ≤ total (λ u. weigh f u.seat.log) views = term_le (λ u. weigh f u.seat.log) views i v at in omega (arith, k.logged f)

  -- the seat logs an entry
  pub adds : (e : Entry) → Kin h (set views i (lives (logs v.seat e))) (e ∷ history)
  adds e = let w = lives (logs v.seat e) in let s = total-set present views i v w at in let n : total present views ≡ total present (set views i w) = omega (arith, one_present v live) in let mine = k.stands i v at in record {
    stands = stands_set h (total present (set views i w)) views i w (λ j u _ d. recount h _ _ j u (λ _. n) (k.stands j u d)) (record {
      at_home = λ _. homely;
      is_spent = λ f. absurd (true≢false f);
      is_root = λ r. ((mine.is_root r).0, sym n ∙ (mine.is_root r).1);
    });
    one_root = omega (arith, total-set heads views i v w at, k.one_root);
    logged = λ f. omega (arith, total-set (λ u. weigh f u.seat.log) views i v w at, k.logged f, weigh-append f v.seat.log (e ∷ []));
  }

  -- another view with a log counts where the seat isn't alone
  others_spent : IsAlone v.seat → (j : ℕ) (u : View) → j ≢ i → get_elem? views j ≡ some u → u.live ≡ false
  others_spent a j u n d = none_present u (
      let one : total present views ≡ 1 = ((k.stands i v at).is_root a.0).1 ∙ ap (λ n. n + 1) a.1 in
      let both = terms_le present views i j v u n at d in omega (arith, one_present v live))

  -- the root with none out has the whole history
  pub alone : IsAlone v.seat → (f : Entry → ℕ) → weigh f v.seat.log ≡ weigh f history
  alone a f =
      let only : total (λ u. weigh f u.seat.log) views ≡ weigh f v.seat.log = total-only (λ u. weigh f u.seat.log) views i v at (λ j u n d.
      ap (weigh f) (((k.stands j u d).is_spent (others_spent a j u n d)).1)) in
      sym only ∙ k.logged f

  -- only the root is at its place
  one_root : v.seat.root ≡ true → (j : ℕ) (u : View) → j ≢ i → get_elem? views j ≡ some u → u.seat.root ≡ true → ⊥
  one_root r j u n d q = n (((k.stands j u d).is_root q).0 ∙ sym ((k.stands i v at).is_root r).0)

  pub forks : v.seat.root ≡ true → Kin h (set views i (lives (lent v.seat)) ++ lives (beside v.seat) ∷ []) history
  forks r =
      let w = lives (lent v.seat) in let vs = set views i w in let b = lives (beside v.seat) in let s = total-set present views i v w at in let a = total-append present vs (b ∷ []) in
      let mine = k.stands i v at in let count = total present (vs ++ b ∷ []) in
      let n : count ≡ total present views + 1 = omega (arith, one_present v live) in
      let was = stands_set h count views i w (λ j u apart d. recount h _ _ j u (λ q. absurd (one_root r j u apart d q)) (k.stands j u d))
      (record { at_home = λ _. homely; is_spent = λ f. absurd (true≢false f); is_root = λ q. ((mine.is_root q).0, n ∙ ap (λ z. z + 1) (mine.is_root q).1) }) in
      record {
        stands = λ j u e. ⊎_elim (was j u) (λ (same : b ≡ u). subst (λ (y : View). Stands h count j y) same (stands_beside h count j (beside v.seat) homely refl)) (at_snoc vs b u j e);
        one_root = omega (arith, total-append heads vs (b ∷ []), total-set heads views i v w at, k.one_root);
        logged = λ f. omega (arith, total-append (λ u. weigh f u.seat.log) vs (b ∷ []), total-set (λ u. weigh f u.seat.log) views i v w at, k.logged f);
      }

  pub merges : (other : ℕ) (u : View) → v.seat.root ≡ true → 0 < v.seat.out → u.live ≡ true → u.seat.root ≡ false → other ≢ i → get_elem? (set views i (lives (joined v.seat u.seat))) other ≡ some u
      → Kin h (set (set views i (lives (joined v.seat u.seat))) other spent) history
  merges other u r some_out u_live seat apart there =
      let w = lives (joined v.seat u.seat) in let vs = set views i w in let mine = k.stands i v at in let count = total present (set vs other spent) in
      let a = total-set present views i v w at in let b = total-set present vs other u spent there in
      let o = one_present u u_live in let n : count + 1 ≡ total present views = omega (arith, one_present v live) in
      let first = stands_set h count views i w (λ j y d e. recount h _ _ j y (λ q. absurd (one_root r j y d e q)) (k.stands j y e))
      (record { at_home = λ _. homely; is_spent = λ f. absurd (true≢false f); is_root = λ q. ((mine.is_root q).0, let c = (mine.is_root q).1 in omega arith) }) in
      record {
        stands = stands_set h count vs other spent (λ j y _ e. first j y e) (stands_spent h count other);
        one_root = omega (arith, total-set heads views i v w at, total-set heads vs other u spent there, ap counted seat, k.one_root);
        logged = λ f. let x = total-set (λ y. weigh f y.seat.log) views i v w at in let y = total-set (λ y. weigh f y.seat.log) vs other u spent there in omega (arith, k.logged f, weigh-append f v.seat.log u.seat.log);
      }
