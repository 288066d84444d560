-- A text that is put into a block a piece after another.
use Rattle.std.proofs.Common.{◌≡◌, ℕ, ◌+◌, ◌<◌, ◌≤◌, List, [], ◌∷◌, ◌++◌, length, get_or, take, drop, Result, Ok, Err, sym, ◌∙◌, subst, ap}
use Rattle.std.specs.List.{flat_map}
use Rattle.std.specs.Result.{OnErr}
use Rattle.std.proofs.lemmas.List.{append_assoc, append-nil, take_more, take_all, take-append-drop}
use Rattle.std.proofs.lemmas.Grind.{flat_map-append}
use Rattle.jul_base.specs.Sinks.{SinkState, FailedWriting, IsSent}
use Rattle.jul_base.proofs.SinkLaws.{IsSent-then, FailedWriting-then, FailedWriting-longer}

-- what holds at the exit of a `?`
pub on_err_holds : {T E Q : Type 0} (r : Result T E) → Q → OnErr r Q
on_err_holds (Ok x) q = tt
on_err_holds (Err e) q = q

-- one more piece behind a text that was put behind an old one
pub sent_more : (a b c : SinkState) (block block' old text piece : List ℕ) → IsSent a b block (old ++ text) → IsSent b c block' (block ++ piece) →
    IsSent a c block' (old ++ (text ++ piece))
sent_more a b c block block' old text piece first second = subst (IsSent a c block') (append_assoc old text piece) (IsSent-then a b c block block' (old ++ text) piece first second)

pub failed_more : (a b c : SinkState) (block old text piece : List ℕ) → a.faults ≤ b.faults → IsSent a b block (old ++ text) → FailedWriting b c (block ++ piece) →
    FailedWriting a c (old ++ (text ++ piece))
failed_more a b c block old text piece le first second = subst (FailedWriting a c) (append_assoc old text piece) (FailedWriting-then a b c block (old ++ text) piece le first second)

-- a failure before the last piece
pub failed_before : (a b : SinkState) (old text piece : List ℕ) → FailedWriting a b (old ++ text) → FailedWriting a b (old ++ (text ++ piece))
failed_before a b old text piece failed = subst (FailedWriting a b) (append_assoc old text piece) (FailedWriting-longer a b (old ++ text) piece failed)

-- a failure in writing what a block still held
pub failed_at_end : (a b c : SinkState) (block text : List ℕ) → a.faults ≤ b.faults → IsSent a b block text → FailedWriting b c block → FailedWriting a c text
failed_at_end a b c block text le sent failed =
    subst (FailedWriting a c) (append-nil text) (FailedWriting-then a b c block text [] le sent (subst (FailedWriting b c) (sym (append-nil block)) failed))

-- ---- a piece for each item of a list

pieces-more : (piece : ℕ → List ℕ) (xs : List ℕ) (i : ℕ) → i < length xs → flat_map piece (take i xs) ++ piece (get_or xs i 0) ≡ flat_map piece (take (i + 1) xs)
pieces-more piece xs i lt =
    sym (ap (flat_map piece) (take_more xs i 0 lt)
    ∙ flat_map-append piece (take i xs) (get_or xs i 0 ∷ [])
    ∙ ap (λ (t : List ℕ). flat_map piece (take i xs) ++ t) (append-nil (piece (get_or xs i 0))))

pieces-rest : (piece : ℕ → List ℕ) (xs : List ℕ) (i : ℕ) → flat_map piece (take i xs) ++ flat_map piece (drop i xs) ≡ flat_map piece xs
pieces-rest piece xs i = sym (flat_map-append piece (take i xs) (drop i xs)) ∙ ap (flat_map piece) (take-append-drop i xs)

-- the piece of item x, which is the next one
pub sent_piece : (piece : ℕ → List ℕ) (xs : List ℕ) (i x : ℕ) (a b c : SinkState) (block block' old : List ℕ) → i < length xs → get_or xs i 0 ≡ x →
    IsSent a b block (old ++ flat_map piece (take i xs)) → IsSent b c block' (block ++ piece x) → IsSent a c block' (old ++ flat_map piece (take (i + 1) xs))
sent_piece piece xs i x a b c block block' old lt is first second =
    subst (λ (t : List ℕ). IsSent a c block' (old ++ t)) (ap (λ (y : ℕ). flat_map piece (take i xs) ++ piece y) (sym is) ∙ pieces-more piece xs i lt)
    (sent_more a b c block block' old (flat_map piece (take i xs)) (piece x) first second)

pub failed_piece : (piece : ℕ → List ℕ) (xs : List ℕ) (i x : ℕ) (a b c : SinkState) (block old : List ℕ) → i < length xs → get_or xs i 0 ≡ x → a.faults ≤ b.faults →
    IsSent a b block (old ++ flat_map piece (take i xs)) → FailedWriting b c (block ++ piece x) → FailedWriting a c (old ++ flat_map piece xs)
failed_piece piece xs i x a b c block old lt is le first second =
    let here : FailedWriting a c (old ++ flat_map piece (take (i + 1) xs)) =
    subst (λ (t : List ℕ). FailedWriting a c (old ++ t)) (ap (λ (y : ℕ). flat_map piece (take i xs) ++ piece y) (sym is) ∙ pieces-more piece xs i lt)
    (failed_more a b c block old (flat_map piece (take i xs)) (piece x) le first second) in
    subst (λ (t : List ℕ). FailedWriting a c (old ++ t)) (pieces-rest piece xs (i + 1))
    (failed_before a c old (flat_map piece (take (i + 1) xs)) (flat_map piece (drop (i + 1) xs)) here)

-- all pieces were put
pub sent_pieces : (piece : ℕ → List ℕ) (xs : List ℕ) (i : ℕ) (a b : SinkState) (block old : List ℕ) → length xs ≤ i →
    IsSent a b block (old ++ flat_map piece (take i xs)) → IsSent a b block (old ++ flat_map piece xs)
sent_pieces piece xs i a b block old all sent = subst (λ (ys : List ℕ). IsSent a b block (old ++ flat_map piece ys)) (take_all i xs all) sent
