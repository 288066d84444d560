-- Each step on the table of claims keeps its rule.
use Rattle.std.proofs.Common.{zero, suc, ◌≡◌, ◌≢◌, ◌⊎◌, ℕ, ◌+◌, ◌-◌, ◌<◌, ◌≤◌, ◌==◌, List, [], ◌∷◌, ◌++◌, length, set, refl, ap, sym, ◌∙◌, subst, ⊎_elim, arith, get_or, cond, replicate}
use Rattle.std.proofs.lemmas.List.{get_or-set_same, get_or-set_other, get_or-replicate, get_or_past, length-set, length-replicate}
use Rattle.std.proofs.lemmas.Bool.{cases_eq}
use Rattle.std.proofs.lemmas.Bool.Decides.{nat_tests}
use Rattle.atomic_table.specs.Table.{Me, keeps, step, opening, Allows, Splits, Joins}
use mathlib.Core.Option.{some, none, some-ne-none}
use lib.ListN.{get_elem?}
use Rattle.atomic_table.proofs.Lists.{at_set, at_snoc, set_else}
use Rattle.jul_pool.specs.declared.claim_rule.View.{View}
use Rattle.jul_base.specs.Times.{times}
use Rattle.jul_pool.specs.Totals.{total}
use Rattle.jul_pool.specs.Claims.{root_view, part_view, spent_view, after_take, with_part, joined, FitsRule, AreTaken, Keeps, Took}
use Rattle.jul_base.proofs.TimesLaws.{times-append, times_here, times_other}
use Rattle.jul_pool.proofs.TotalLaws.{total_set, total_push, total_at, total_add, total_only}

abbrev AllFit : List View → Type 0
AllFit views = (id : ℕ) (v : View) → get_elem? views id ≡ some v → FitsRule v

fits_set : (views : List View) (id : ℕ) (w : View) → AllFit views → FitsRule w → AllFit (set views id w)
fits_set views id w all mine j u e =
    ⊎_elim
    (λ (x : (j ≡ id) × (w ≡ u)). subst FitsRule x.1 mine)
    (λ (x : (j ≢ id) × (get_elem? views j ≡ some u)). all j u x.1)
    (at_set views id j w u e)

fits_push : (views : List View) (w : View) → AllFit views → FitsRule w → AllFit (views ++ w ∷ [])
fits_push views w all mine j u e =
    ⊎_elim
    (λ (x : get_elem? views j ≡ some u). all j u x)
    (λ (x : w ≡ u). subst FitsRule x mine)
    (at_snoc views w u j e)

-- what the root has out is all that is out
roots_own : (words : List ℕ) (views : List View) (id : ℕ) (v : View) → AreTaken words views → get_elem? views id ≡ some v → v.root ≡ 1 → total (λ u. u.out) views ≡ v.out
roots_own words views id v c at root = total_only (λ u. u.out) (λ u. u.root) views id v at (c.roots ∙ sym root) (λ j w e z. (c.fits j w e).out z)

-- the root with none out has all chunks that were taken
pub all_taken : (words : List ℕ) (views : List View) (id : ℕ) (v : View) → AreTaken words views → get_elem? views id ≡ some v → v.root ≡ 1 → v.out ≡ 0 → (chunk : ℕ) → get_or words (chunk + 1) 0 ≡ times chunk v.chunks
all_taken words views id v c at root none_out chunk =
    let own = roots_own words views id v c at root in
    let f : FitsRule v = c.fits id v at in
    let sum : total (λ u. u.root + u.part) views ≡ v.root + v.part = omega (arith, total_add (λ u. u.root) (λ u. u.part) views, c.roots, c.out, own, f.one) in
    let only : total (λ u. times chunk u.chunks) views ≡ times chunk v.chunks = total_only (λ u. times chunk u.chunks) (λ u. u.root + u.part) views id v at sum (λ j w e z. ap (times chunk) ((c.fits j w e).spent z)) in
    sym (c.stands chunk) ∙ only

-- a swap with 1 that met `met` adds the chunk to the list where it met 0, and no other chunk
times_after : (v : View) (chunk met x : ℕ) → met ≤ 1 → times x (after_take v chunk (met == 0)).chunks + cond (x == chunk) met 0 ≡ times x v.chunks + cond (x == chunk) 1 0
times_after v chunk zero x h = let t : times x (v.chunks ++ chunk ∷ []) ≡ times x v.chunks + times x (chunk ∷ []) = times-append x v.chunks (chunk ∷ []) in grind (arith, nat_tests, times_here, times_other)
times_after v chunk (suc zero) x h = refl
times_after v chunk (suc (suc met)) x h = absurd (omega arith)

word_after : (words : List ℕ) (chunk x : ℕ) → chunk + 1 < length words → get_or (set words (chunk + 1) 1) (x + 1) 0 + cond (x == chunk) (get_or words (chunk + 1) 0) 0 ≡ get_or words (x + 1) 0 + cond (x == chunk) 1 0
word_after words chunk x h =
    ⊎_elim
    (λ (e : x ≡ chunk). here words chunk x e h)
    (λ (ne : x ≡ chunk → ⊥). other words chunk x ne h)
    (cases_eq x chunk)
  where
    here : (words : List ℕ) (chunk x : ℕ) → x ≡ chunk → chunk + 1 < length words → get_or (set words (chunk + 1) 1) (x + 1) 0 + cond (x == chunk) (get_or words (chunk + 1) 0) 0 ≡ get_or words (x + 1) 0 + cond (x == chunk) 1 0
    here words chunk x e h =
        let a : get_or (set words (x + 1) 1) (x + 1) 0 ≡ 1 = get_or-set_same words (x + 1) 1 0 (omega arith) in
        let b : get_or (set words (chunk + 1) 1) (x + 1) 0 ≡ 1 = subst (λ k. get_or (set words (k + 1) 1) (x + 1) 0 ≡ 1) e a in
        let d : get_or words (chunk + 1) 0 ≡ get_or words (x + 1) 0 = ap (λ k. get_or words (k + 1) 0) (sym e) in
        grind (arith, nat_tests)

    other : (words : List ℕ) (chunk x : ℕ) → x ≢ chunk → chunk + 1 < length words → get_or (set words (chunk + 1) 1) (x + 1) 0 + cond (x == chunk) (get_or words (chunk + 1) 0) 0 ≡ get_or words (x + 1) 0 + cond (x == chunk) 1 0
    other words chunk x ne h =
        let a : get_or (set words (chunk + 1) 1) (x + 1) 0 ≡ get_or words (x + 1) 0 = get_or-set_other words (chunk + 1) (x + 1) 1 0 (λ q. ne (omega arith)) in
        grind (arith, nat_tests)

take_keeps : (words : List ℕ) (views : List View) (id chunk : ℕ) (v : View) → AreTaken words views → get_elem? views id ≡ some v → 0 < v.root + v.part → chunk + 1 < length words → AreTaken (set words (chunk + 1) 1) (set views id (after_take v chunk (get_or words (chunk + 1) 0 == 0)))
take_keeps words views id chunk v c at live h =
    let f : FitsRule v = c.fits id v at in
    let met = get_or words (chunk + 1) 0 in
    let w : View = after_take v chunk (met == 0) in record {
      fits = fits_set views id w c.fits (record { one = f.one; out = f.out; spent = λ z. absurd (omega arith) });
      roots = omega (arith, total_set (λ u. u.root) views id v w at, c.roots);
      out = omega (arith, total_set (λ u. u.out) views id v w at, total_set (λ u. u.part) views id v w at, c.out);
      zero_or_one = λ x. few x (c.zero_or_one x) (c.zero_or_one chunk) (word_after words chunk x h);
      stands = λ x. omega (arith, total_set (λ u. times x u.chunks) views id v w at, times_after v chunk met x (c.zero_or_one chunk), word_after words chunk x h, c.stands x);
    }
  where
    few : (x : ℕ) → get_or words (x + 1) 0 ≤ 1 → get_or words (chunk + 1) 0 ≤ 1 → get_or (set words (chunk + 1) 1) (x + 1) 0 + cond (x == chunk) (get_or words (chunk + 1) 0) 0 ≡ get_or words (x + 1) 0 + cond (x == chunk) 1 0 → get_or (set words (chunk + 1) 1) (x + 1) 0 ≤ 1
    few x a b e =
        ⊎_elim
        (λ (q : x ≡ chunk). let d : get_or words (chunk + 1) 0 ≡ get_or words (x + 1) 0 = ap (λ k. get_or words (k + 1) 0) (sym q) in grind (arith, nat_tests))
        (λ (ne : x ≡ chunk → ⊥). grind (arith, nat_tests))
        (cases_eq x chunk)

split_keeps : (words : List ℕ) (views : List View) (id : ℕ) (v : View) → AreTaken words views → get_elem? views id ≡ some v → v.root ≡ 1 → AreTaken words (set views id (with_part v) ++ part_view ∷ [])
split_keeps words views id v c at root =
    let f : FitsRule v = c.fits id v at in
    let w : View = with_part v in
    let left = set views id w in
    let set_at = λ (g : View → ℕ). total_set g views id v w at in
    let push_at = λ (g : View → ℕ). total_push g left part_view in record {
      fits = fits_push left part_view (fits_set views id w c.fits (record { one = f.one; out = λ h. absurd (omega arith); spent = λ h. absurd (omega arith) }))
          (record { one = omega arith; out = λ h. refl; spent = λ h. refl });
      roots = omega (arith, set_at (λ u. u.root), push_at (λ u. u.root), c.roots);
      out = omega (arith, set_at (λ u. u.out), push_at (λ u. u.out), set_at (λ u. u.part), push_at (λ u. u.part), c.out);
      zero_or_one = c.zero_or_one;
      stands = λ x. omega (arith, set_at (λ u. times x u.chunks), push_at (λ u. times x u.chunks), c.stands x);
    }

join_keeps : (words : List ℕ) (views : List View) (id other : ℕ) (v u : View) → AreTaken words views → get_elem? views id ≡ some v → other ≢ id → get_elem? (set views id (joined v u)) other ≡ some u → v.root ≡ 1 → u.root ≡ 0 → u.part ≡ 1 → AreTaken words (set (set views id (joined v u)) other spent_view)
join_keeps words views id other v u c at apart there root no_root part =
    let f : FitsRule v = c.fits id v at in
    let w : View = joined v u in
    let mid = set views id w in
    let before : get_elem? views other ≡ some u = sym (set_else views id other w apart) ∙ there in
    let fu : FitsRule u = c.fits other u before in
    let own = roots_own words views id v c at root in
    let some_out : u.part ≤ total (λ x. x.part) views = total_at (λ x. x.part) views other u before in
    let first = λ (g : View → ℕ). total_set g views id v w at in
    let second = λ (g : View → ℕ). total_set g mid other u spent_view there in record {
      fits = fits_set mid other spent_view (fits_set views id w c.fits (record { one = f.one; out = λ h. absurd (omega arith); spent = λ h. absurd (omega arith) }))
          (record { one = omega arith; out = λ h. refl; spent = λ h. refl });
      roots = omega (arith, first (λ x. x.root), second (λ x. x.root), c.roots);
      out = omega (arith, own, some_out, first (λ x. x.out), second (λ x. x.out), first (λ x. x.part), second (λ x. x.part), c.out, fu.out no_root);
      zero_or_one = c.zero_or_one;
      stands = λ x. omega (arith, first (λ y. times x y.chunks), second (λ y. times x y.chunks), times-append x v.chunks u.chunks, c.stands x);
    }

-- no chunk stands twice in the list of the root with none out
pub taken_once : (words : List ℕ) (views : List View) (id : ℕ) (v : View) → AreTaken words views → get_elem? views id ≡ some v → v.root ≡ 1 → v.out ≡ 0 → (chunk : ℕ) → times chunk v.chunks ≤ 1
taken_once words views id v c at root none_out chunk = omega (arith, all_taken words views id v c at root none_out chunk, c.zero_or_one chunk)

zeros : (n i : ℕ) → get_or {A = ℕ} (replicate n 0) i 0 ≡ 0
zeros n i =
    ⊎_elim
    (λ (near : i < n). get_or-replicate n i 0 0 near)
    (λ (past : n ≤ i). get_or_past (replicate n 0) i 0 (omega (arith, length-replicate {A = ℕ} n 0)))
    (lt_or n i)
  where
    lt_or : (n i : ℕ) → (i < n) ⊎ (n ≤ i)
    lt_or n i = grind arith

pub opens : {S : Type 0} (chunks : ℕ) → Keeps {S = S} chunks (opening (replicate (chunks + 1) 0) [] root_view)
opens chunks = record {
  words = length-replicate (chunks + 1) 0;
  zero = zeros (chunks + 1) 0;
  taken = record {
    fits = fits_push [] root_view (λ id v e. absurd (some-ne-none v (sym e))) (record { one = omega arith; out = λ h. absurd (omega arith); spent = λ h. absurd (omega arith) });
    roots = refl;
    out = refl;
    zero_or_one = λ chunk. omega (arith, zeros (chunks + 1) (chunk + 1));
    stands = λ chunk. sym (zeros (chunks + 1) (chunk + 1));
  };
}

pub take_allowed : {S : Type 0} (chunks slots id chunk : ℕ) (me : Me S View) → 0 < me.0.root + me.0.part → chunk < chunks → Allows (Keeps {S = S} chunks) slots id me (chunk + 1) (λ _. 1) (Took (step slots (chunk + 1) 1 0 none) me)
take_allowed chunks slots id chunk me live near s h homes at fits =
    let met = get_or s.words (chunk + 1) 0 in
    let size : chunk + 1 < length s.words = omega (arith, h.words) in
    let same : chunk + 1 - 1 ≡ chunk = omega arith in (
      after_take me.0 chunk (met == 0),
      keeps,
      tt,
      record {
        words = length-set s.words (chunk + 1) 1 ∙ h.words;
        zero = get_or-set_other s.words (chunk + 1) 0 1 0 (λ q. absurd (omega arith)) ∙ h.zero;
        taken = take_keeps s.words s.views id chunk me.0 h.taken at live size;
      },
      record {
        view = ap (λ c. (after_take me.0 c (met == 0), me.1)) (sym same);
        alone = λ root none_out. all_taken s.words s.views id me.0 h.taken at root none_out chunk ∙ ap (λ c. times c me.0.chunks) (sym same);
      },
    )

pub split_allowed : {S : Type 0} (chunks id : ℕ) (v : View) → v.root ≡ 1 → Splits (Keeps {S = S} chunks) id v (with_part v) part_view
split_allowed chunks id v root s h at = record { words = h.words; zero = h.zero; taken = split_keeps s.words s.views id v h.taken at root }

pub join_allowed : {S : Type 0} (chunks id other : ℕ) (v u : View) → v.root ≡ 1 → (u.root ≡ 0) × (u.part ≡ 1) → Joins (Keeps {S = S} chunks) id v other u (joined v u) spent_view
join_allowed chunks id other v u root part s h at apart there = record { words = h.words; zero = h.zero; taken = join_keeps s.words s.views id other v u h.taken at apart there root part.0 part.1 }
