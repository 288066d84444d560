-- What chunks pick of an increasing list, put together.
use Rattle.std.proofs.Common.{zero, suc, ◌≡◌, ℕ, ◌+◌, ◌*◌, ◌<◌, ◌≤◌, List, [], ◌∷◌, ◌++◌, length, map, drop, get_or, refl, ap, sym, ◌∙◌, subst, arith, All, Bool, true, false, Some, slice_get, Vec, Global, if◌then◌else◌}
use Rattle.std.specs.Prelude.{sum_by}
use Rattle.std.specs.List.{flat_map, filter, AllPairs, range_with_len}
use Rattle.std.specs.List.Sorted.{IsStrictlyIncreasing}
use Rattle.std.proofs.lemmas.List.{drop_all, length-map}
use Rattle.std.proofs.lemmas.List.Sums.{sum_by-append}
use Rattle.std.proofs.lemmas.List.Elements.{filter-append, All-nil, All-cons, All-head, All-tail}
use Rattle.std.proofs.lemmas.List.Kept.{AllPairs-from_increasing}
use Rattle.jul_base.specs.Logs.{Log}
use Rattle.jul_pool.specs.Runs.{EachRunOnce}
use Rattle.jul_subset.specs.Chunks.{chunk_of}
use Rattle.jul_subset.specs.Applications.{Done, answered_true, AppliedOnce}
use Rattle.jul_subset.specs.Picks.{picked, PicksOf}
use Rattle.jul_subset.proofs.ChunkLaws.{chunk_then, given_at}
use Rattle.jul_subset.proofs.ApplicationLaws.{if_append, NotesChunk, notes_hits, all_gathered, done_parts}

pub picked-append : (bs cs : List Bool) (xs ys : List ℕ) → length bs ≡ length xs → picked (bs ++ cs) (xs ++ ys) ≡ picked bs xs ++ picked cs ys
picked-append [] cs [] ys e = refl
picked-append [] cs (x ∷ xs) ys e = absurd (omega arith)
picked-append (b ∷ bs) cs [] ys e = absurd (omega arith)
picked-append (b ∷ bs) cs (x ∷ xs) ys e =
    if_append b x (picked bs xs) (picked cs ys) (picked (bs ++ cs) (xs ++ ys)) (picked-append bs cs xs ys (omega arith))

answered_picked : (done : List (Done ℕ)) → answered_true (λ v. v) done ≡ picked (map (λ (d : Done ℕ). d.answer) done) (map (λ (d : Done ℕ). d.to) done)
answered_picked [] = refl
answered_picked (d ∷ ds) = ap (λ l. if d.answer then d.to ∷ l else l) (answered_picked ds)

-- a list that rises from `low` on
abbrev RisesFrom : ℕ → List ℕ → Type 0
RisesFrom low [] = Unit {0}
RisesFrom low (x ∷ xs) = (low ≤ x) × RisesFrom (x + 1) xs

rises_lower : (low high : ℕ) (xs : List ℕ) → low ≤ high → RisesFrom high xs → RisesFrom low xs
rises_lower low high [] le up = tt
rises_lower low high (x ∷ xs) le (first, up) = (omega arith, up)

if_rises : (b : Bool) (low x : ℕ) (ps : List ℕ) → low ≤ x → RisesFrom (x + 1) ps → RisesFrom low (if b then x ∷ ps else ps)
if_rises true low x ps le up = (le, up)
if_rises false low x ps le up = rises_lower low (x + 1) ps (omega arith) up

picked_rises : (low : ℕ) (bs : List Bool) (xs : List ℕ) → RisesFrom low xs → RisesFrom low (picked bs xs)
picked_rises low [] xs up = tt
picked_rises low (b ∷ bs) [] up = tt
picked_rises low (b ∷ bs) (x ∷ xs) (first, up) = if_rises b low x (picked bs xs) first (picked_rises (x + 1) bs xs up)

rises_behind : (x : ℕ) (xs : List ℕ) → AllPairs (λ a b. a < b) (x ∷ xs) → RisesFrom (x + 1) xs
rises_behind x [] up = tt
rises_behind x (y ∷ ys) up =
    let less : x < y = up 0 1 0 (omega arith) (omega arith) in
    (omega arith, rises_behind y ys (λ i j d lt in'. up (suc i) (suc j) d (omega arith) (omega arith)))

rises_all : (xs : List ℕ) → IsStrictlyIncreasing xs → RisesFrom 0 xs
rises_all [] up = tt
rises_all (x ∷ xs) up = (omega arith, rises_behind x xs (AllPairs-from_increasing (x ∷ xs) up))

increasing_again : (low : ℕ) (xs : List ℕ) → RisesFrom low xs → IsStrictlyIncreasing xs
increasing_again low [] up k lt = absurd (omega arith)
increasing_again low (x ∷ []) up k lt = absurd (omega arith)
increasing_again low (x ∷ (y ∷ ys)) (first, (second, up)) zero lt = omega arith
increasing_again low (x ∷ (y ∷ ys)) (first, (second, up)) (suc k) lt =
    let e : suc k + 1 ≡ suc (k + 1) = omega arith in
    let rest : get_or (y ∷ ys) k 0 < get_or (y ∷ ys) (k + 1) 0 = increasing_again (x + 1) (y ∷ ys) (second, up) k (omega arith) in
    omega (arith, rest, ap (λ i. get_or (x ∷ (y ∷ ys)) i 0) e)

pub IsStrictlyIncreasing-picked : (bs : List Bool) (xs : List ℕ) → IsStrictlyIncreasing xs → IsStrictlyIncreasing (picked bs xs)
IsStrictlyIncreasing-picked bs xs up = increasing_again 0 (picked bs xs) (picked_rises 0 bs xs (rises_all xs up))

if_all : (P : ℕ → Type 0) (b : Bool) (x : ℕ) (ps : List ℕ) → P x → All P ps → All P (if b then x ∷ ps else ps)
if_all P true x ps p all = All-cons P x ps p all
if_all P false x ps p all = all

pub All-picked : (P : ℕ → Type 0) (bs : List Bool) (xs : List ℕ) → All P xs → All P (picked bs xs)
All-picked P [] xs all = All-nil P
All-picked P (b ∷ bs) [] all = All-nil P
All-picked P (b ∷ bs) (x ∷ xs) all = if_all P b x (picked bs xs) (All-head P x xs all) (All-picked P bs xs (All-tail P x xs all))

-- where each result picks of its chunk, they together pick of the whole list
picks_together : (xs : List ℕ) (size k : ℕ) (outs : List (Vec ℕ Global)) → ((i : ℕ) (o : Vec ℕ Global) → slice_get outs i ≡ Some o → PicksOf (chunk_of xs size (k + i)) o.items)
    → (bs : List Bool) × (flat_map (λ (o : Vec ℕ Global). o.items) outs ≡ picked bs (drop (k * size) xs))
picks_together xs size k [] each = ([], refl)
picks_together xs size k (o ∷ outs) each =
    let z : k + 0 ≡ k = omega arith in
    let first : PicksOf (chunk_of xs size k) o.items = subst (λ i. PicksOf (chunk_of xs size i) o.items) z (each 0 o refl) in
    let rest = picks_together xs size (k + 1) outs (λ i p e. (let s : k + suc i ≡ k + 1 + i = omega arith in subst (λ j. PicksOf (chunk_of xs size j) p.items) s (each (suc i) p e))) in (
      first.0 ++ rest.0,
      ap (λ l. l ++ flat_map (λ (o : Vec ℕ Global). o.items) outs) first.2 ∙ ap (λ l. picked first.0 (chunk_of xs size k) ++ l) rest.1
          ∙ sym (picked-append first.0 rest.0 (chunk_of xs size k) (drop ((k + 1) * size) xs) first.1) ∙ ap (picked (first.0 ++ rest.0)) (sym (chunk_then xs size k)),
    )

-- what passes a test in each chunk is what passes in the whole list
filters_together : (p : ℕ → Bool) (xs : List ℕ) (size k : ℕ) (outs : List (Vec ℕ Global)) → length xs ≤ (k + length outs) * size
    → ((i : ℕ) (o : Vec ℕ Global) → slice_get outs i ≡ Some o → o.items ≡ filter p (chunk_of xs size (k + i)))
    → flat_map (λ (o : Vec ℕ Global). o.items) outs ≡ filter p (drop (k * size) xs)
filters_together p xs size k [] enough each =
    let z : (k + 0) * size ≡ k * size = omega arith in
    ap (filter p) (sym (drop_all (k * size) xs (omega arith)))
filters_together p xs size k (o ∷ outs) enough each =
    let z : k + 0 ≡ k = omega arith in
    let s : k + suc (length outs) ≡ k + 1 + length outs = omega arith in
    let enough' : length xs ≤ (k + 1 + length outs) * size = subst (λ j. length xs ≤ j * size) s enough in
    let first : o.items ≡ filter p (chunk_of xs size k) = each 0 o refl ∙ ap (λ i. filter p (chunk_of xs size i)) z in
    let rest = filters_together p xs size (k + 1) outs enough' (λ i q e. each (suc i) q e ∙ (let t : k + suc i ≡ k + 1 + i = omega arith in ap (λ j. filter p (chunk_of xs size j)) t)) in
    ap (λ l. l ++ flat_map (λ (o : Vec ℕ Global). o.items) outs) first ∙ ap (λ l. filter p (chunk_of xs size k) ++ l) rest
    ∙ sym (filter-append p (chunk_of xs size k) (drop ((k + 1) * size) xs)) ∙ ap (filter p) (sym (chunk_then xs size k))

-- the chunks of a list weigh together what the list weighs
pub chunks_weigh : (h : ℕ → ℕ) (xs : List ℕ) (size k n : ℕ) → length xs ≤ (k + n) * size → sum_by (λ c. sum_by h (chunk_of xs size c)) (range_with_len k n) ≡ sum_by h (drop (k * size) xs)
chunks_weigh h xs size k zero enough =
    let z : (k + 0) * size ≡ k * size = omega arith in
    ap (sum_by h) (sym (drop_all (k * size) xs (omega arith)))
chunks_weigh h xs size k (suc n) enough =
    let s : k + suc n ≡ k + 1 + n = omega arith in
    let enough' : length xs ≤ (k + 1 + n) * size = subst (λ j. length xs ≤ j * size) s enough in
    let g = λ (c : ℕ). sum_by h (chunk_of xs size c) in
    omega (arith, sum_by-append g (k ∷ []) (range_with_len (k + 1) n), chunks_weigh h xs size (k + 1) n enough', ap (sum_by h) (chunk_then xs size k), sum_by-append h (chunk_of xs size k) (drop ((k + 1) * size) xs))

-- the results of all chunks pick of the whole list
pub chunks_pick : (Ran : ℕ → Vec ℕ Global → Log → Type 0) (xs : List ℕ) (size chunks : ℕ) (old new : Log) (outs : List (Vec ℕ Global)) (order : List ℕ) →
    ((chunk : ℕ) (out : Vec ℕ Global) (added : Log) → Ran chunk out added → PicksOf (chunk_of xs size chunk) out.items) → EachRunOnce Ran chunks old new outs order →
    (bs : List Bool) × (flat_map (λ (o : Vec ℕ Global). o.items) outs ≡ picked bs xs)
chunks_pick Ran xs size chunks old new outs order picks ran =
    let p = picks_together xs size 0 outs (λ i o e.
    let z : 0 + i ≡ i = omega arith in
    let g = given_at Ran chunks old new outs order ran i o e in
    subst (λ j. PicksOf (chunk_of xs size j) o.items) (sym z) (picks i o g.0 g.1)) in
    let start : 0 * size ≡ 0 = omega arith in
    (p.0, p.1 ∙ ap (λ j. picked p.0 (drop j xs)) start)

module _ (gives : ℕ → Bool → Log → Type 0) (xs : List ℕ) (size : ℕ) where
  abbrev Notes : ℕ → Vec ℕ Global → Log → Type 0
  Notes = NotesChunk gives (λ v. v) (chunk_of xs size)

  notes_pick : (chunk : ℕ) (out : Vec ℕ Global) (added : Log) → Notes chunk out added → PicksOf (chunk_of xs size chunk) out.items
  notes_pick chunk out added (done, a, is) = (
    map (λ (d : Done ℕ). d.answer) done,
    length-map done (λ (d : Done ℕ). d.answer) ∙ sym (length-map done (λ (d : Done ℕ). d.to)) ∙ ap length a.to_is,
    is ∙ answered_picked done ∙ ap (picked (map (λ (d : Done ℕ). d.answer) done)) a.to_is,
  )

  -- the results of all chunks are an increasing list
  pub mapped_increasing : (chunks : ℕ) (old new : Log) (outs : List (Vec ℕ Global)) (order : List ℕ) → EachRunOnce Notes chunks old new outs order → IsStrictlyIncreasing xs
      → IsStrictlyIncreasing (flat_map (λ (o : Vec ℕ Global). o.items) outs)
  mapped_increasing chunks old new outs order ran up =
      let p = chunks_pick Notes xs size chunks old new outs order notes_pick ran in
      subst IsStrictlyIncreasing (sym p.1) (IsStrictlyIncreasing-picked p.0 xs up)

  -- of members of the list
  pub mapped_within : (P : ℕ → Type 0) (chunks : ℕ) (old new : Log) (outs : List (Vec ℕ Global)) (order : List ℕ) → EachRunOnce Notes chunks old new outs order → All P xs
      → All P (flat_map (λ (o : Vec ℕ Global). o.items) outs)
  mapped_within P chunks old new outs order ran all =
      let p = chunks_pick Notes xs size chunks old new outs order notes_pick ran in
      subst (All P) (sym p.1) (All-picked P p.0 xs all)

  -- each member was applied to once, and the results are those answered true
  pub mapped_once : (chunks : ℕ) (old new : Log) (outs : List (Vec ℕ Global)) (order : List ℕ) → EachRunOnce Notes chunks old new outs order → length xs ≤ chunks * size
      → (parts : ℕ) → length old ≡ parts → length new ≡ parts → AppliedOnce gives (λ v. v) xs old new (flat_map (λ (o : Vec ℕ Global). o.items) outs)
  mapped_once chunks old new outs order ran enough parts size_old size_new =
      let g = all_gathered gives (λ v. v) (chunk_of xs size) Notes (notes_hits gives (λ v. v) (chunk_of xs size)) chunks old new outs order ran in record {
        done = g.done;
        by = g.by;
        parts = done_parts parts old new size_old size_new g.done g.by.log_is;
        once = λ h.
            let z : 0 + chunks ≡ chunks = omega arith in
            let start : 0 * size ≡ 0 = omega arith in
            g.once h ∙ chunks_weigh h xs size 0 chunks (subst (λ j. length xs ≤ j * size) (sym z) enough) ∙ ap (λ j. sum_by h (drop j xs)) start;
        members_are = g.noted;
      }

-- the results of all chunks of a filter are what passes in the whole list
pub filtered : (p : ℕ → Bool) (xs : List ℕ) (size chunks : ℕ) (old new : Log) (outs : List (Vec ℕ Global)) (order : List ℕ) → EachRunOnce (λ chunk out added. (out.items ≡ filter p (chunk_of xs size chunk)) × (added ≡ [])) chunks old new outs order
    → length xs ≤ chunks * size → flat_map (λ (o : Vec ℕ Global). o.items) outs ≡ filter p xs
filtered p xs size chunks old new outs order ran enough =
    let as_many : chunks ≡ 0 + length outs = omega (arith, ran.count) in
    let start : 0 * size ≡ 0 = omega arith in
    filters_together p xs size 0 outs (subst (λ j. length xs ≤ j * size) as_many enough) (λ i o e.
    let z : i ≡ 0 + i = omega arith in
    let g = given_at (λ chunk out added. (out.items ≡ filter p (chunk_of xs size chunk)) × (added ≡ [])) chunks old new outs order ran i o e in
    g.1.0 ∙ ap (λ j. filter p (chunk_of xs size j)) z)
    ∙ ap (λ j. filter p (drop j xs)) start
