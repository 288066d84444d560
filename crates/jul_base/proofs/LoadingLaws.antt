-- A file that is loaded block by block.
use Rattle.std.proofs.Common.{◌≡◌, ℕ, ◌+◌, ◌<◌, ◌≤◌, List, [], ◌++◌, length, take, drop, Option, Some, None, refl, sym, ◌∙◌, subst, ap, arith, IfSome}
use Rattle.std.specs.Option.{option_map}
use Rattle.std.proofs.lemmas.List.{take_all, drop_all, length-take-le, length-drop, length-append, drop-drop, take-append-le}
use Rattle.std.proofs.Math.Seq.{take-add}
use Rattle.jul_base.specs.Shelves.{ShelfState, Told, Moves, contents, after_open, after_read}
use Rattle.jul_base.specs.Loading.{bytes_of, IsLoaded}

-- what the loop keeps: as many of the file's bytes were read as stand in the list
pub record IsLoading (old now : ShelfState) (name bytes : List ℕ) : Type 0 where
  pub there : IfSome old.told (λ t. contents t.files name ≡ Some (bytes_of t name))
  pub so_far : IfSome old.told (λ t. bytes ≡ take (length bytes) (bytes_of t name))
  pub rest : now.told ≡ option_map (λ t. after_read (length bytes) (after_open name t)) old.told

abbrev read_to : List ℕ → ℕ → Option Told → Option Told
read_to name n o = option_map (λ t. after_read n (after_open name t)) o

-- one more block
step_bytes : (name bytes front block block' : List ℕ) (count : ℕ) (o p : Option Told) → p ≡ read_to name (length bytes) o →
    IfSome o (λ t. bytes ≡ take (length bytes) (bytes_of t name)) → IfSome p (λ t. Moves t count block block') → count ≤ length block' → front ≡ take count block' →
    IfSome o (λ t. bytes ++ front ≡ take (length bytes + count) (bytes_of t name))
step_bytes name bytes front block block' count None p e so_far moves le front_is = tt
step_bytes name bytes front block block' count (Some t) p e so_far moves le front_is =
    let all : List ℕ = bytes_of t name in
    let m : Moves (after_read (length bytes) (after_open name t)) count block block' = subst (λ o. IfSome o (λ t. Moves t count block block')) e moves in
    let front_all : front ≡ take count (drop (length bytes) all) =
    front_is ∙ ap (take count) m.moved ∙ take-append-le count (take count (drop (length bytes) all)) (drop count block) (omega (arith, length-take-le count (drop (length bytes) all) m.prefix))
    ∙ take_all count (take count (drop (length bytes) all)) (omega (arith, length-take-le count (drop (length bytes) all) m.prefix)) in
    ap (λ xs. xs ++ front) so_far ∙ ap (λ xs. take (length bytes) all ++ xs) front_all ∙ sym (take-add (length bytes) count all)

step_rest : (name : List ℕ) (n count : ℕ) (o p q : Option Told) → p ≡ read_to name n o → q ≡ option_map (after_read count) p → q ≡ read_to name (n + count) o
step_rest name n count None p q e f = f ∙ ap (option_map (after_read count)) e
step_rest name n count (Some t) p q e f =
    f ∙ ap (option_map (after_read count)) e
    ∙ ap (λ (xs : List ℕ). Some (record (after_open name t) { left = xs })) (drop-drop count n (bytes_of t name) ∙ ap (λ k. drop k (bytes_of t name)) (omega arith))

pub IsLoading-more : (old now next : ShelfState) (name bytes bytes' block block' more : List ℕ) (count : ℕ) → IsLoading old now name bytes →
    IfSome now.told (λ t. Moves t count block block') → next.told ≡ option_map (after_read count) now.told → count ≤ length block' → bytes' ≡ bytes ++ take count (block' ++ more) →
    IsLoading old next name bytes'
IsLoading-more old now next name bytes bytes' block block' more count h moves read le grown =
    let front_is : take count (block' ++ more) ≡ take count block' = take-append-le count block' more le in
    let grown_by : bytes' ≡ bytes ++ take count block' = grown ∙ ap (λ xs. bytes ++ xs) front_is in
    let longer : length bytes' ≡ length bytes + count = ap length grown_by ∙ length-append bytes (take count block') ∙ ap (λ k. length bytes + k) (length-take-le count block' le) in
    record {
      there = h.there;
      so_far = subst (λ k. IfSome old.told (λ t. bytes' ≡ take k (bytes_of t name))) (sym longer)
          (subst (λ xs. IfSome old.told (λ t. xs ≡ take (length bytes + count) (bytes_of t name))) (sym grown_by)
          (step_bytes name bytes (take count block') block block' count old.told now.told h.rest h.so_far moves le refl));
      rest = step_rest name (length bytes) count old.told now.told next.told h.rest read ∙ ap (λ k. read_to name k old.told) (sym longer);
    }

-- a file was opened, and nothing was read yet
pub IsLoading-start : (old now : ShelfState) (name : List ℕ) → IfSome old.told (λ t. contents t.files name ≡ Some (bytes_of t name)) →
    now.told ≡ option_map (after_open name) old.told → IsLoading old now name []
IsLoading-start old now name there opened = record { there = there; so_far = none old.told; rest = opened ∙ whole old.told } where
  none : (o : Option Told) → IfSome o (λ t. [] ≡ take 0 (bytes_of t name))
  none None = tt
  none (Some t) = refl

  whole : (o : Option Told) → option_map (after_open name) o ≡ read_to name 0 o
  whole None = refl
  whole (Some t) = refl

loaded_bytes : (name bytes : List ℕ) (most : ℕ) (o : Option Told) → length bytes ≡ most → IfSome o (λ t. bytes ≡ take (length bytes) (bytes_of t name)) → IfSome o (λ t. bytes ≡ take most (bytes_of t name))
loaded_bytes name bytes most o e h = subst (λ k. IfSome o (λ t. bytes ≡ take k (bytes_of t name))) e h

-- as many bytes were read as were asked for
pub IsLoaded-full : (old now : ShelfState) (name bytes : List ℕ) (most : ℕ) → IsLoading old now name bytes → length bytes ≡ most → IsLoaded old now name bytes most
IsLoaded-full old now name bytes most h e = record {
  there = h.there;
  first_bytes = loaded_bytes name bytes most old.told e h.so_far;
  rest = h.rest ∙ ap (λ k. read_to name k old.told) e;
}

-- nothing is left
end_bytes : (name bytes block block' : List ℕ) (most count : ℕ) (o p : Option Told) → p ≡ read_to name (length bytes) o → length bytes ≤ most → 0 < length block → count ≡ 0 →
    IfSome p (λ t. Moves t count block block') → IfSome o (λ t. bytes ≡ take (length bytes) (bytes_of t name)) → IfSome o (λ t. bytes ≡ take most (bytes_of t name))
end_bytes name bytes block block' most count None p e le some none moves h = tt
end_bytes name bytes block block' most count (Some t) p e le some none moves h =
    let m : Moves (after_read (length bytes) (after_open name t)) count block block' = subst (λ o. IfSome o (λ t. Moves t count block block')) e moves in
    let nothing : length (drop (length bytes) (bytes_of t name)) ≡ 0 = ap length (m.end some none) in
    let short : length (bytes_of t name) ≤ length bytes = omega (arith, nothing, length-drop (length bytes) (bytes_of t name)) in
    h ∙ take_all (length bytes) (bytes_of t name) short ∙ sym (take_all most (bytes_of t name) (omega arith))

end_rest : (name bytes block block' : List ℕ) (most count : ℕ) (o p q : Option Told) → p ≡ read_to name (length bytes) o → length bytes ≤ most → 0 < length block → count ≡ 0 →
    IfSome p (λ t. Moves t count block block') → q ≡ option_map (after_read count) p → q ≡ read_to name most o
end_rest name bytes block block' most count None p q e le some none moves read = read ∙ ap (option_map (after_read count)) e
end_rest name bytes block block' most count (Some t) p q e le some none moves read =
    let m : Moves (after_read (length bytes) (after_open name t)) count block block' = subst (λ o. IfSome o (λ t. Moves t count block block')) e moves in
    let nothing : length (drop (length bytes) (bytes_of t name)) ≡ 0 = ap length (m.end some none) in
    let short : length (bytes_of t name) ≤ length bytes = omega (arith, nothing, length-drop (length bytes) (bytes_of t name)) in
    step_rest name (length bytes) count (Some t) p q e read
    ∙ ap (λ (xs : List ℕ). Some (record (after_open name t) { left = xs }))
    (drop_all (length bytes + count) (bytes_of t name) (omega arith) ∙ sym (drop_all most (bytes_of t name) (omega arith)))

pub IsLoaded-end : (old now next : ShelfState) (name bytes block block' : List ℕ) (most count : ℕ) → IsLoading old now name bytes → length bytes ≤ most → 0 < length block → count ≡ 0 →
    IfSome now.told (λ t. Moves t count block block') → next.told ≡ option_map (after_read count) now.told → IsLoaded old next name bytes most
IsLoaded-end old now next name bytes block block' most count h le some none moves read = record {
  there = h.there;
  first_bytes = end_bytes name bytes block block' most count old.told now.told h.rest le some none moves h.so_far;
  rest = end_rest name bytes block block' most count old.told now.told next.told h.rest le some none moves read;
}
