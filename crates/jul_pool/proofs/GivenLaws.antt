-- What each chunk's result was given as, where each chunk was run once.
use Rattle.std.proofs.Common.{zero, suc, ◌≡◌, ℕ, ◌<◌, List, [], ◌∷◌, length, map, ap, sym, ◌∙◌, subst, arith, All, Some, slice_get, ⊎_elim}
use Rattle.std.proofs.lemmas.Bool.{cases_eq}
use Rattle.jul_base.specs.Logs.{Log}
use Rattle.jul_base.specs.Times.{times}
use Rattle.jul_pool.specs.Runs.{Run, IsRun, EachRunOnce}
use Rattle.jul_base.proofs.TimesLaws.{times-append, times_other}

module _ {Out : Type 0} where
  -- the run of a chunk that was run
  run_of : (P : Run Out → Type 0) (runs : List (Run Out)) (i : ℕ) → 0 < times i (map (λ (r : Run Out). r.chunk) runs) → All P runs → (r : Run Out) × (r.chunk ≡ i) × P r
  run_of P [] i h a = absurd (omega arith)
  run_of P (r ∷ runs) i h a =
      ⊎_elim
      (λ (e : r.chunk ≡ i). (r, e, a 0 r (omega arith)))
      (λ (ne : r.chunk ≡ i → ⊥).
      let others = map (λ (r : Run Out). r.chunk) runs in
      run_of P runs i (omega (arith, times-append i (r.chunk ∷ []) others, times_other i r.chunk (λ e. ne (sym e)), h)) (λ k d lt. a (suc k) d (omega arith)))
      (cases_eq r.chunk i)

  pub slice_get_below : (outs : List Out) (i : ℕ) (out : Out) → slice_get outs i ≡ Some out → i < length outs
  slice_get_below [] i out e = absurd (cc)
  slice_get_below (o ∷ outs) zero out e = omega arith
  slice_get_below (o ∷ outs) (suc i) out e = omega (arith, slice_get_below outs i out e)

  -- each result was given at its chunk
  pub given_at : (gives : ℕ → Out → Log → Type 0) (chunks : ℕ) (old new : Log) (outs : List Out) (order : List ℕ) → EachRunOnce gives chunks old new outs order
      → (i : ℕ) (out : Out) → slice_get outs i ≡ Some out → (added : Log) × gives i out added
  given_at gives chunks old new outs order ran i out stored =
      let lt : i < chunks = omega (arith, slice_get_below outs i out stored, ran.count) in
      let one : times i order ≡ 1 = ran.once.once i lt in
      let (r, at, is) = run_of (IsRun gives outs) ran.runs i (omega (arith, one, ap (times i) ran.order_is)) ran.each in
      let got : Some r.out ≡ Some out = sym is.stored ∙ ap (slice_get outs) at ∙ stored in
      let same : r.out ≡ out = cc in
      (r.added, subst (λ o. gives i o r.added) same (subst (λ c. gives c r.out r.added) at is.gives_out))
