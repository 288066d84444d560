-- What is made of each chunk of a list, put together.
use Rattle.std.proofs.Common.{◌≡◌, ℕ, suc, ◌+◌, ◌*◌, ◌≤◌, List, [], ◌∷◌, ◌++◌, length, drop, refl, ap, sym, ◌∙◌, subst, arith, Some, slice_get, Vec, Global}
use Rattle.std.specs.List.{flat_map}
use Rattle.std.proofs.lemmas.Grind.{flat_map-append}
use Rattle.std.proofs.lemmas.List.{drop_all}
use Rattle.jul_base.specs.Logs.{Log}
use Rattle.jul_pool.specs.Runs.{EachRunOnce}
use Rattle.jul_subset.specs.Chunks.{chunk_of}
use Rattle.jul_subset.proofs.ChunkLaws.{chunk_then, given_at}

-- what is made of each chunk, put together, is what is made of the whole list
module _ {A X : Type 0} (f : A → List X) (xs : List A) (size : ℕ) where
  together : (k : ℕ) (outs : List (Vec X Global)) → length xs ≤ (k + length outs) * size →
      ((i : ℕ) (o : Vec X Global) → slice_get outs i ≡ Some o → o.items ≡ flat_map f (chunk_of xs size (k + i))) →
      flat_map (λ (o : Vec X Global). o.items) outs ≡ flat_map f (drop (k * size) xs)
  together k [] enough each =
      let z : (k + 0) * size ≡ k * size = omega arith in
      ap (flat_map f) (sym (drop_all (k * size) xs (omega arith)))
  together k (o ∷ outs) enough each =
      let z : k + 0 ≡ k = omega arith in
      let s : k + suc (length outs) ≡ k + 1 + length outs = omega arith in
      let enough' : length xs ≤ (k + 1 + length outs) * size = subst (λ j. length xs ≤ j * size) s enough in
      let first : o.items ≡ flat_map f (chunk_of xs size k) = each 0 o refl ∙ ap (λ i. flat_map f (chunk_of xs size i)) z in
      let rest : flat_map (λ (o : Vec X Global). o.items) outs ≡ flat_map f (drop ((k + 1) * size) xs) =
      together (k + 1) outs enough' (λ i q e. each (suc i) q e ∙ (let t : k + suc i ≡ k + 1 + i = omega arith in ap (λ j. flat_map f (chunk_of xs size j)) t)) in
      ap (λ l. l ++ flat_map (λ (o : Vec X Global). o.items) outs) first ∙ ap (λ l. flat_map f (chunk_of xs size k) ++ l) rest
      ∙ sym (flat_map-append f (chunk_of xs size k) (drop ((k + 1) * size) xs)) ∙ ap (flat_map f) (sym (chunk_then xs size k))

  abbrev Gives : ℕ → Vec X Global → Log → Type 0
  Gives chunk out added = (out.items ≡ flat_map f (chunk_of xs size chunk)) × (added ≡ [])

  -- the results of all chunks, where each was run once
  pub gathered : (chunks : ℕ) (old new : Log) (outs : List (Vec X Global)) (order : List ℕ) → EachRunOnce Gives chunks old new outs order → length xs ≤ chunks * size →
      flat_map (λ (o : Vec X Global). o.items) outs ≡ flat_map f xs
  gathered chunks old new outs order ran enough =
      let as_many : chunks ≡ 0 + length outs = omega (arith, ran.count) in
      let start : 0 * size ≡ 0 = omega arith in
      together 0 outs (subst (λ j. length xs ≤ j * size) as_many enough) (λ i o e.
      let z : i ≡ 0 + i = omega arith in
      (given_at Gives chunks old new outs order ran i o e).1.0 ∙ ap (λ j. flat_map f (chunk_of xs size j)) z)
      ∙ ap (λ j. flat_map f (drop j xs)) start
