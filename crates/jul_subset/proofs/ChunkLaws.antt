-- How the chunks of a list, and what was run at each chunk once, are put together.
use Rattle.std.proofs.Common.{zero, suc, ◌≡◌, ℕ, ◌+◌, ◌*◌, ◌<◌, ◌↔◌, List, [], ◌∷◌, ◌++◌, map, drop, refl, ap, sym, ◌∙◌, subst, arith, All, Some, slice_get, ⊎_elim}
use Rattle.std.specs.Prelude.{sum_by, Contains}
use Rattle.std.specs.List.{flat_map}
use Rattle.std.proofs.lemmas.List.{take-append-drop, drop-drop}
use Rattle.std.proofs.lemmas.List.Elements.{All-head, All-tail, Contains-append_left, Contains-append_right, Contains-append_cases}
use Rattle.std.proofs.lemmas.List.Sums.{sum_by-append}
use Rattle.std.proofs.lemmas.Bool.{cases_eq}
use Rattle.jul_base.specs.Logs.{Log}
use Rattle.jul_base.specs.Numbers.{below}
use Rattle.jul_base.proofs.PartLaws.{below-more}
use Rattle.jul_base.specs.Times.{times, EachOnceBelow}
use Rattle.jul_pool.specs.Runs.{Run, EachRunOnce}
pub use Rattle.jul_pool.proofs.GivenLaws.{given_at, slice_get_below}
use Rattle.jul_base.proofs.TimesLaws.{times-append, times_here, times_other}
use Rattle.jul_subset.specs.Chunks.{chunk_of}

-- what is left from one chunk on is that chunk and what is left from the next one on
pub chunk_then : {X : Type 0} (xs : List X) (size k : ℕ) → drop (k * size) xs ≡ chunk_of xs size k ++ drop ((k + 1) * size) xs
chunk_then xs size k =
    let e : k * size + size ≡ (k + 1) * size = omega arith in
    sym (take-append-drop size (drop (k * size) xs)) ∙ ap (λ l. chunk_of xs size k ++ l) (drop-drop size (k * size) xs ∙ ap (λ i. drop i xs) e)

-- a list that has k, about one place of it
record About (k : ℕ) (xs : List ℕ) : Type 0 where
  pub front : List ℕ
  pub back : List ℕ
  pub is : xs ≡ front ++ k ∷ back

about : (k : ℕ) (xs : List ℕ) → 0 < times k xs → About k xs
about k [] h = absurd (omega arith)
about k (x ∷ xs) h =
    ⊎_elim
    (λ (e : x ≡ k). record { front = []; back = xs; is = ap (λ y. y ∷ xs) e })
    (λ (ne : x ≡ k → ⊥).
    let r = about k xs (omega (arith, times-append k (x ∷ []) xs, times_other k x (λ e. ne (sym e)), h)) in
    record { front = x ∷ r.front; back = r.back; is = ap (λ l. x ∷ l) r.is })
    (cases_eq x k)

times_about : (x k : ℕ) (front back : List ℕ) → times x (front ++ k ∷ back) ≡ times x (front ++ back) + times x (k ∷ [])
times_about x k front back = omega (arith, times-append x front (k ∷ back), times-append x (k ∷ []) back, times-append x front back)

-- the numbers below n, each once, weigh what they weigh in order
pub each_once_sum : (g : ℕ → ℕ) (n : ℕ) (xs : List ℕ) → EachOnceBelow n xs → sum_by g xs ≡ sum_by g (below n)
each_once_sum g zero [] o = refl
each_once_sum g zero (x ∷ xs) o = absurd (omega (arith, o.no_other x (omega arith), times-append x (x ∷ []) xs, times_here x x refl))
each_once_sum g (suc n) xs o =
    let a : About n xs = about n xs (let t : times n xs ≡ 1 = o.once n (omega arith) in omega arith) in
    let t = λ (x : ℕ). ap (times x) a.is ∙ times_about x n a.front a.back in
    let rest : EachOnceBelow n (a.front ++ a.back) = record {
      once = λ x h. omega (arith, t x, o.once x (omega arith), times_other x n (omega arith));
      no_other = λ x h.
          ⊎_elim
          (λ (e : x ≡ n). omega (arith, t x, o.once x (omega arith), times_here x n e))
          (λ (ne : x ≡ n → ⊥). let past : n < x = grind arith in omega (arith, t x, o.no_other x (omega arith), times_other x n ne))
          (cases_eq x n);
    } in
    let more : below (suc n) ≡ below n ++ n ∷ [] = (let s : suc n ≡ n + 1 = omega arith in ap below s) ∙ below-more n in
    omega (arith, ap (sum_by g) a.is, sum_by-append g a.front (n ∷ a.back), sum_by-append g (n ∷ []) a.back, sum_by-append g a.front a.back, each_once_sum g n (a.front ++ a.back) rest, ap (sum_by g) more, sum_by-append g (below n) (n ∷ []))

-- what the results hold, by the runs that gave them
module _ {Out : Type 0} (items : Out → List ℕ) where
  outs_have : (outs : List Out) (i : ℕ) (o : Out) (v : ℕ) → slice_get outs i ≡ Some o → Contains (items o) v → Contains (flat_map items outs) v
  outs_have [] i o v e h = absurd (cc)
  outs_have (x ∷ xs) zero o v e h = let same : o ≡ x = cc in Contains-append_left (items x) (flat_map items xs) v (subst (λ y. Contains (items y) v) same h)
  outs_have (x ∷ xs) (suc i) o v e h = Contains-append_right (items x) (flat_map items xs) v (outs_have xs i o v e h)

  record HeldAt (outs : List Out) (v : ℕ) : Type 0 where
    pub index : ℕ
    pub out : Out
    pub stored : slice_get outs index ≡ Some out
    pub holds : Contains (items out) v

  held_at : (outs : List Out) (v : ℕ) → Contains (flat_map items outs) v → HeldAt outs v
  held_at [] v (k, lt, at) = absurd (omega arith)
  held_at (x ∷ xs) v h =
      ⊎_elim
      (λ (here : Contains (items x) v). record { index = 0; out = x; stored = refl; holds = here })
      (λ (later : Contains (flat_map items xs) v).
      let r = held_at xs v later in
      record { index = suc r.index; out = r.out; stored = r.stored; holds = r.holds })
      (Contains-append_cases (items x) (flat_map items xs) v h)

  abbrev Stored : List Out → Run Out → Type 0
  Stored outs r = slice_get outs r.chunk ≡ Some r.out

  abbrev ran_items : List (Run Out) → List ℕ
  ran_items runs = flat_map (λ (r : Run Out). items r.out) runs

  held_by_outs : (outs : List Out) (runs : List (Run Out)) → All (Stored outs) runs → (v : ℕ) → Contains (ran_items runs) v → Contains (flat_map items outs) v
  held_by_outs outs [] a v (k, lt, at) = absurd (omega arith)
  held_by_outs outs (r ∷ runs) a v h =
      ⊎_elim
      (λ (here : Contains (items r.out) v). outs_have outs r.chunk r.out v (All-head (Stored outs) r runs a) here)
      (λ (later : Contains (ran_items runs) v). held_by_outs outs runs (All-tail (Stored outs) r runs a) v later)
      (Contains-append_cases (items r.out) (ran_items runs) v h)

  held_by_runs : (outs : List Out) (runs : List (Run Out)) → All (Stored outs) runs → (i : ℕ) (o : Out) → slice_get outs i ≡ Some o → 0 < times i (map (λ (r : Run Out). r.chunk) runs) → (v : ℕ) → Contains (items o) v → Contains (ran_items runs) v
  held_by_runs outs [] a i o at some v h = absurd (omega arith)
  held_by_runs outs (r ∷ runs) a i o at some v h =
      ⊎_elim
      (λ (e : r.chunk ≡ i).
      let got : Some o ≡ Some r.out = sym at ∙ ap (slice_get outs) (sym e) ∙ All-head (Stored outs) r runs a in
      let same : o ≡ r.out = cc in
      Contains-append_left (items r.out) (ran_items runs) v (subst (λ y. Contains (items y) v) same h))
      (λ (ne : r.chunk ≡ i → ⊥).
      let others = map (λ (r : Run Out). r.chunk) runs in
      Contains-append_right (items r.out) (ran_items runs) v
      (held_by_runs outs runs (All-tail (Stored outs) r runs a) i o at (omega (arith, times-append i (r.chunk ∷ []) others, times_other i r.chunk (λ e. ne (sym e)), some)) v h))
      (cases_eq r.chunk i)

  -- the results of all chunks hold what the runs answered
  pub outs_hold : (gives : ℕ → Out → Log → Type 0) (chunks : ℕ) (old new : Log) (outs : List Out) (order : List ℕ) (ran : EachRunOnce gives chunks old new outs order)
      → (v : ℕ) → Contains (flat_map items outs) v ↔ Contains (flat_map (λ (r : Run Out). items r.out) ran.runs) v
  outs_hold gives chunks old new outs order ran v =
      let stored : All (Stored outs) ran.runs = λ k d lt. (ran.each k d lt).stored in (
        (λ h.
            let at = held_at outs v h in
            let one : times at.index order ≡ 1 = ran.once.once at.index (omega (arith, slice_get_below outs at.index at.out at.stored, ran.count)) in
            held_by_runs outs ran.runs stored at.index at.out at.stored (omega (arith, one, ap (times at.index) ran.order_is)) v at.holds),
        (λ h. held_by_outs outs ran.runs stored v h),
      )
