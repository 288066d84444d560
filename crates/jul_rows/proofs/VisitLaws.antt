-- How places that were visited are put one behind another.
use Rattle.std.proofs.Common.{zero, suc, ◌≡◌, ℕ, ◌+◌, ◌-◌, ◌<◌, List, [], ◌∷◌, ◌++◌, length, map, take, get_or, refl, ap, sym, ◌∙◌, subst, arith, Bool, true, false, if◌then◌else◌}
use Rattle.std.proofs.Common.{inl, inr}
use Rattle.std.proofs.lemmas.Bool.{cases_Bool}
use Rattle.std.proofs.lemmas.List.{map-append, append_assoc, append-nil}
use Rattle.std.specs.List.{filter, flat_map, range_with_len}
use Rattle.std.proofs.lemmas.List.FromFn.{filter_of_map_range_with_len_more}
use Rattle.jul_base.specs.declared.graphs.RawGraph.{RawGraph}
use Rattle.jul_base.specs.Graph.{row_start, row_end, target}
use Rattle.jul_base.specs.Logs.{Home}
use Rattle.jul_rows.specs.Visits.{IsSame, push_steps, Step, step, Visited, noted_of, VisitedInOrder, HasVisited, HasPushed}

pub noted_of-append : (xs ys : List Visited) → noted_of (xs ++ ys) ≡ noted_of xs ++ noted_of ys
noted_of-append [] ys = refl
noted_of-append (x ∷ xs) ys = elim (cases_Bool x.noted) [
  | inl is ↦ rw is (ap (λ l. x.step.target ∷ l) (noted_of-append xs ys))
  | inr not ↦ rw not (noted_of-append xs ys)
]

module _ {T : Type 0} (home : T → List Home) (is_root : T → Bool) (out : T → ℕ) where
  pub same_then : (old mid new : T) → IsSame home is_root out old mid → IsSame home is_root out mid new → IsSame home is_root out old new
  same_then old mid new a b = record { home_is = b.home_is ∙ a.home_is; root_is = b.root_is ∙ a.root_is; out_is = b.out_is ∙ a.out_is }

-- the wanted places of a row, with one more
pub push_more : (g : RawGraph) (wanted : ℕ → Bool) (u k p v : ℕ) → p ≡ row_start g u + k → v ≡ target g (row_start g u + k) →
    filter (λ (s : Step). wanted s.target) (map (λ q. step u q (target g q)) (range_with_len (row_start g u) (k + 1)))
    ≡ filter (λ (s : Step). wanted s.target) (map (λ q. step u q (target g q)) (range_with_len (row_start g u) k)) ++ (if wanted v then step u p v ∷ [] else [])
push_more g wanted u k p v at to =
    let f = λ (q : ℕ). step u q (target g q) in
    let before = filter (λ (s : Step). wanted s.target) (map f (range_with_len (row_start g u) k)) in
    let j = row_start g u + k in
    filter_of_map_range_with_len_more (λ (s : Step). wanted s.target) f (row_start g u) k j refl
    ∙ ap (λ q. before ++ (if wanted (target g j) then step u q (target g j) ∷ [] else [])) (sym at)
    ∙ ap (λ t. before ++ (if wanted t then step u p t ∷ [] else [])) (sym to)

-- all wanted places of a row
pub push_whole : (g : RawGraph) (wanted : ℕ → Bool) (u n : ℕ) → row_start g u + n ≡ row_end g u → filter (λ (s : Step). wanted s.target) (map (λ q. step u q (target g q)) (range_with_len (row_start g u) n)) ≡ push_steps g wanted u
push_whole g wanted u n e =
    let size : n ≡ row_end g u - row_start g u = omega arith in
    ap (λ k. filter (λ (s : Step). wanted s.target) (map (λ q. step u q (target g q)) (range_with_len (row_start g u) k))) size

-- what is made of the first members, with one more
pub flat_more : (f : ℕ → List Step) (us : List ℕ) (k u : ℕ) → k < length us → u ≡ get_or us k 0 → flat_map f (take (k + 1) us) ≡ flat_map f (take k us) ++ f u
flat_more f [] k u h e = absurd (omega arith)
flat_more f (x ∷ us) zero u h e = append-nil (f x) ∙ ap f (sym e)
flat_more f (x ∷ us) (suc k) u h e =
    let s : suc k + 1 ≡ suc (k + 1) = omega arith in
    ap (λ n. flat_map f (take n (x ∷ us))) s ∙ ap (λ l. f x ++ l) (flat_more f us k u (omega arith) e) ∙ sym (append_assoc (f x) (flat_map f (take k us)) (f u))

module _ {T : Type 0} (visits : Visited → T → T → Type 0) where
  in_order-append : (xs ys : List Visited) (old mid new : T) → VisitedInOrder visits xs old mid → VisitedInOrder visits ys mid new → VisitedInOrder visits (xs ++ ys) old new
  in_order-append [] ys old mid new a b = subst (λ (t : T). VisitedInOrder visits ys t new) a b
  in_order-append (x ∷ xs) ys old mid new a b = (a.0, a.1, in_order-append xs ys a.0 mid new a.2 b)

  pub visited_none : (old : T) → HasVisited visits [] old old []
  visited_none old = record { in_order = refl; steps_are = refl }

  pub visited_append : (ss ts all : List Step) (xs ys : List Visited) (old mid new : T) → all ≡ ss ++ ts → HasVisited visits ss old mid xs → HasVisited visits ts mid new ys → HasVisited visits all old new (xs ++ ys)
  visited_append ss ts all xs ys old mid new e a b = record {
    in_order = in_order-append xs ys old mid new a.in_order b.in_order;
    steps_are = map-append (λ (x : Visited). x.step) xs ys ∙ ap (λ l. l ++ map (λ (x : Visited). x.step) ys) a.steps_are ∙ ap (λ l. ss ++ l) b.steps_are ∙ sym e;
  }

  pub visited_one : (x : Visited) (old new : T) → visits x old new → HasVisited visits (x.step ∷ []) old new (x ∷ [])
  visited_one x old new v = record { in_order = (new, v, refl); steps_are = refl }

  pub pushed_none : (old : T) (before : List ℕ) → HasPushed visits [] old old before before
  pushed_none old before = record { visited = []; has_visited = visited_none old; noted_are = sym (append-nil before) }

  pub pushed_append : (ss ts all : List Step) (old mid new : T) (a b c : List ℕ) → all ≡ ss ++ ts → HasPushed visits ss old mid a b → HasPushed visits ts mid new b c → HasPushed visits all old new a c
  pushed_append ss ts all old mid new a b c e x y = record {
    visited = x.visited ++ y.visited;
    has_visited = visited_append ss ts all x.visited y.visited old mid new e x.has_visited y.has_visited;
    noted_are = y.noted_are ∙ ap (λ l. l ++ noted_of y.visited) x.noted_are ∙ append_assoc a (noted_of x.visited) (noted_of y.visited) ∙ ap (λ l. a ++ l) (sym (noted_of-append x.visited y.visited));
  }

  -- one more place was visited
  pub pushed_one : (s : Step) (noted : Bool) (old mid new : T) (ss all : List Step) (a b c : List ℕ) → all ≡ ss ++ s ∷ [] → HasPushed visits ss old mid a b → visits (record { step = s; noted = noted }) mid new → c ≡ b ++ (if noted then s.target ∷ [] else []) → HasPushed visits all old new a c
  pushed_one s noted old mid new ss all a b c e x v is =
      pushed_append ss (s ∷ []) all old mid new a b c e x (record { visited = record { step = s; noted = noted } ∷ []; has_visited = visited_one (record { step = s; noted = noted }) mid new v; noted_are = is })

  -- a place that was visited because it is wanted
  pub pushed_chosen : (w noted : Bool) (s : Step) (old new : T) (b c : List ℕ) → w ≡ true → visits (record { step = s; noted = noted }) old new → c ≡ b ++ (if noted then s.target ∷ [] else []) → HasPushed visits (if w then s ∷ [] else []) old new b c
  pushed_chosen w noted s old new b c chosen v is =
      let x : Visited = record { step = s; noted = noted } in
      rw chosen (record { visited = x ∷ []; has_visited = visited_one x old new v; noted_are = is })

  pub pushed_same : (ss ts : List Step) (old new : T) (b c : List ℕ) → ss ≡ ts → HasPushed visits ss old new b c → HasPushed visits ts old new b c
  pushed_same ss ts old new b c e x = record { visited = x.visited; has_visited = record { in_order = x.has_visited.in_order; steps_are = x.has_visited.steps_are ∙ e }; noted_are = x.noted_are }

  -- a place that was not visited
  pub pushed_unchosen : (w : Bool) (ss : List Step) (old : T) (before : List ℕ) → w ≡ false → HasPushed visits (if w then ss else []) old old before before
  pushed_unchosen w ss old before unchosen = rw unchosen (pushed_none old before)

  -- places that were visited because their target is wanted
  pub pushed_where : (w : Bool) (ss : List Step) (old new : T) (before after : List ℕ) → w ≡ true → HasPushed visits ss old new before after → HasPushed visits (if w then ss else []) old new before after
  pushed_where w ss old new before after chosen x = rw chosen x
