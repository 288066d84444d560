-- Places that a pull visits, one vertex after another.
use Rattle.std.proofs.Common.{zero, suc, ◌≡◌, ℕ, ◌+◌, ◌-◌, ◌≤◌, List, [], ◌∷◌, ◌++◌, length, map, refl, ap, sym, ◌∙◌, subst, arith, All, Bool, true, false, ◌||◌, if◌then◌else◌, inl, inr, ⊎_elim}
use Rattle.std.specs.Prelude.{◌↔◌, IsTrue, Contains, slice_index}
use Rattle.std.specs.List.{filter, flat_map, range_with_len, slice_index_or}
use Rattle.std.proofs.lemmas.Bool.{cases_Bool}
use Rattle.std.proofs.lemmas.Grind.{flat_map-append}
use Rattle.std.proofs.lemmas.List.{map-id, append-nil, append_assoc, length-append}
use Rattle.std.proofs.lemmas.List.Elements.{All-nil, All-cons, All-head, All-tail, Contains-append_left, Contains-append_right, Contains-append_cases}
use Rattle.std.proofs.lemmas.List.FromFn.{map-range_with_len_more, filter_of_map_range_with_len_more}
use Rattle.jul_base.specs.InRows.{InEdges}
use Rattle.jul_base.specs.Sets.{has}
use Rattle.jul_base.proofs.SetLaws.{has-from_Contains, Contains-from_has, Contains-cons_cases}
use Rattle.jul_rows.specs.Visits.{Step, step, Visited, noted_of}
use Rattle.jul_rows.proofs.VisitLaws.{noted_of-append, visited_none, visited_append, visited_one}
use Rattle.jul_subset.specs.Picks.{picked, PicksOf}
use Rattle.jul_subset.proofs.PickingLaws.{picked-append}
use Rattle.jul_edge.specs.Pulls.{pull_steps, any_noted, HasTried, HasPulled}

-- the places that lead from members to v, with one more
pub pull_more : (us ps members : List ℕ) (v k u p : ℕ) → u ≡ slice_index us k → p ≡ slice_index ps k →
    filter (λ (s : Step). has members s.source) (map (λ i. step (slice_index us i) (slice_index ps i) v) (range_with_len 0 (k + 1)))
    ≡ filter (λ (s : Step). has members s.source) (map (λ i. step (slice_index us i) (slice_index ps i) v) (range_with_len 0 k)) ++ (if has members u then step u p v ∷ [] else [])
pull_more us ps members v k u p from at =
    let f = λ (i : ℕ). step (slice_index us i) (slice_index ps i) v in
    let before = filter (λ (s : Step). has members s.source) (map f (range_with_len 0 k)) in
    filter_of_map_range_with_len_more (λ (s : Step). has members s.source) f 0 k k (omega arith)
    ∙ ap (λ q. before ++ (if has members (slice_index us k) then step (slice_index us k) q v ∷ [] else [])) (sym at)
    ∙ ap (λ t. before ++ (if has members t then step t p v ∷ [] else [])) (sym from)

-- whether u is a member, as a test
pub has_test : (members : List ℕ) (u : ℕ) (b : Bool) → IsTrue b ↔ Contains members u → has members u ≡ b
has_test members u true is = has-from_Contains members u (is.0 refl)
has_test members u false is =
    elim (cases_Bool (has members u)) [
      | inl found ↦ absurd (let t : false ≡ true = is.1 (Contains-from_has members u found) in cc)
      | inr missing ↦ missing
    ]

pub range_grows : (first n : ℕ) → range_with_len first (n + 1) ≡ range_with_len first n ++ (first + n) ∷ []
range_grows first n =
    sym (map-id (range_with_len first (n + 1))) ∙ map-range_with_len_more (λ x. x) first n (first + n) refl ∙ ap (λ (l : List ℕ). l ++ (first + n) ∷ []) (map-id (range_with_len first n))

-- the places that lead to wanted vertices from a first one on, with one more vertex
pub range_more : (f : ℕ → List Step) (first v : ℕ) → first ≤ v → flat_map f (range_with_len first (v + 1 - first)) ≡ flat_map f (range_with_len first (v - first)) ++ f v
range_more f first v le =
    let size : v + 1 - first ≡ (v - first) + 1 = omega arith in
    let at : first + (v - first) ≡ v = omega arith in
    ap (λ n. flat_map f (range_with_len first n)) size
    ∙ ap (flat_map f) (range_grows first (v - first) ∙ ap (λ k. range_with_len first (v - first) ++ k ∷ []) at)
    ∙ flat_map-append f (range_with_len first (v - first)) (v ∷ [])
    ∙ ap (λ l. flat_map f (range_with_len first (v - first)) ++ l) (append-nil (f v))

-- all numbers from a first one on, with one more
pub range_next : (first v : ℕ) → first ≤ v → range_with_len first (v + 1 - first) ≡ range_with_len first (v - first) ++ v ∷ []
range_next first v le =
    let size : v + 1 - first ≡ (v - first) + 1 = omega arith in
    let at : first + (v - first) ≡ v = omega arith in
    ap (range_with_len first) size ∙ range_grows first (v - first) ∙ ap (λ k. range_with_len first (v - first) ++ k ∷ []) at

-- chosen places that all lead to v
lead_to : (v : ℕ) (f : ℕ → Step) (q : Step → Bool) → ((k : ℕ) → (f k).target ≡ v) → (a n : ℕ) → All (λ (s : Step). s.target ≡ v) (filter q (map f (range_with_len a n)))
lead_to v f q to a zero = All-nil _
lead_to v f q to a (suc n) =
    let P : Step → Type 0 = λ s. s.target ≡ v in
    let rest : All P (filter q (map f (range_with_len (a + 1) n))) = lead_to v f q to (a + 1) n in
    elim (cases_Bool (q (f a))) [
      | inl chosen ↦ rw chosen (All-cons P (f a) (filter q (map f (range_with_len (a + 1) n))) (to a) rest)
      | inr other ↦ rw other rest
    ]

-- those of a pull of v do
pub pull_steps_lead : (edges : InEdges) (members : List ℕ) (v : ℕ) → All (λ (s : Step). s.target ≡ v) (pull_steps edges members v)
pull_steps_lead edges members v =
    let us : List ℕ = slice_index_or edges.sources v [] in
    let ps : List ℕ = slice_index_or edges.places v [] in
    lead_to v (λ k. step (slice_index us k) (slice_index ps k) v) (λ (s : Step). has members s.source) (λ k. refl) 0 (length ps)

any_noted-append : (xs ys : List Visited) → any_noted (xs ++ ys) ≡ (any_noted xs || any_noted ys)
any_noted-append [] ys = refl
any_noted-append (x ∷ xs) ys = elim (cases_Bool x.noted) [
  | inl is ↦ rw is refl
  | inr not ↦ rw not (any_noted-append xs ys)
]

-- where all places lead to v, what is noted is v, where one is to be noted
noted_one : (v : ℕ) (xs : List Visited) → All (λ (s : Step). s.target ≡ v) (map (λ (x : Visited). x.step) xs) → any_noted xs ≡ true → Contains (noted_of xs) v
noted_one v [] to some = absurd (cc)
noted_one v (x ∷ xs) to some =
    let P : Step → Type 0 = λ s. s.target ≡ v in
    let steps = map (λ (x : Visited). x.step) xs in
    elim (cases_Bool x.noted) [
      | inl is ↦ rw is (0, omega arith, All-head P x.step steps to)
      | inr not ↦ rw not (noted_one v xs (All-tail P x.step steps to) (rw not at some))
    ]

noted_target : (v w : ℕ) (xs : List Visited) → All (λ (s : Step). s.target ≡ v) (map (λ (x : Visited). x.step) xs) → Contains (noted_of xs) w → v ≡ w
noted_target v w [] to (k, lt, at) = absurd (omega arith)
noted_target v w (x ∷ xs) to held =
    let P : Step → Type 0 = λ s. s.target ≡ v in
    let steps = map (λ (x : Visited). x.step) xs in
    let here : x.step.target ≡ v = All-head P x.step steps to in
    let rest : All P steps = All-tail P x.step steps to in
    elim (cases_Bool x.noted) [
      | inl is ↦ elim (Contains-cons_cases x.step.target (noted_of xs) w (rw is at held)) [
        | inl e ↦ sym here ∙ e
        | inr later ↦ noted_target v w xs rest later
      ]
      | inr not ↦ noted_target v w xs rest (rw not at held)
    ]

none_noted : (xs : List Visited) → any_noted xs ≡ false → noted_of xs ≡ []
none_noted [] none = refl
none_noted (x ∷ xs) none = elim (cases_Bool x.noted) [
  | inl is ↦ absurd (let t : true ≡ false = rw is at none in cc)
  | inr not ↦ rw not (none_noted xs (rw not at none))
]

picks-append : (xs ys some more : List ℕ) → PicksOf xs some → PicksOf ys more → PicksOf (xs ++ ys) (some ++ more)
picks-append xs ys some more a b = (
  a.0 ++ b.0,
  length-append a.0 b.0 ∙ ap (λ n. n + length b.0) a.1 ∙ ap (λ n. length xs + n) b.1 ∙ sym (length-append xs ys),
  ap (λ l. l ++ more) a.2 ∙ ap (λ l. picked a.0 xs ++ l) b.2 ∙ sym (picked-append a.0 b.0 xs ys a.1),
)

module _ {T : Type 0} (visits : Visited → T → T → Type 0) where
  pub tried_none : (old : T) → HasTried visits [] old old false
  tried_none old = record { visited = []; has_visited = visited_none visits old; hit_is = refl }

  pub tried_append : (ss ts all : List Step) (old mid new : T) (hit more both : Bool) → all ≡ ss ++ ts → both ≡ (hit || more) → HasTried visits ss old mid hit → HasTried visits ts mid new more → HasTried visits all old new both
  tried_append ss ts all old mid new hit more both e is x y = record {
    visited = x.visited ++ y.visited;
    has_visited = visited_append visits ss ts all x.visited y.visited old mid new e x.has_visited y.has_visited;
    hit_is = is ∙ ap (λ b. b || more) x.hit_is ∙ ap (λ b. any_noted x.visited || b) y.hit_is ∙ sym (any_noted-append x.visited y.visited);
  }

  -- a place that was not visited, and one that was
  pub tried_unchosen : (w : Bool) (ss : List Step) (old : T) → w ≡ false → HasTried visits (if w then ss else []) old old false
  tried_unchosen w ss old unchosen = rw unchosen (tried_none old)

  pub tried_chosen : (w hit : Bool) (s : Step) (old new : T) → w ≡ true → visits (record { step = s; noted = hit }) old new → HasTried visits (if w then s ∷ [] else []) old new hit
  tried_chosen w hit s old new chosen v =
      let x : Visited = record { step = s; noted = hit } in
      rw chosen (record { visited = x ∷ []; has_visited = visited_one visits x old new v; hit_is = one hit })
    where
      one : (b : Bool) → b ≡ (b || false)
      one true = refl
      one false = refl

  pulled_none : (old : T) (before : List ℕ) → HasPulled visits [] [] old old before before
  pulled_none old before = record { visited = []; has_visited = visited_none visits old; noted = []; after_is = sym (append-nil before); picks = ([], refl, refl); holds = λ v. ((λ h. h), (λ h. h)) }

  -- no vertex yet
  pub pulled_start : (f : ℕ → List Step) (first : ℕ) (old : T) (before : List ℕ) → HasPulled visits (flat_map f (range_with_len first (first - first))) (range_with_len first (first - first)) old old before before
  pulled_start f first old before =
      let none : 0 ≡ first - first = omega arith in
      subst (λ n. HasPulled visits (flat_map f (range_with_len first n)) (range_with_len first n) old old before before) none (pulled_none old before)

  pub pulled_append : (ss ts all : List Step) (vs ws us : List ℕ) (old mid new : T) (a b c : List ℕ) → all ≡ ss ++ ts → us ≡ vs ++ ws → HasPulled visits ss vs old mid a b → HasPulled visits ts ws mid new b c → HasPulled visits all us old new a c
  pulled_append ss ts all vs ws us old mid new a b c e f x y =
      let split = noted_of-append x.visited y.visited in record {
        visited = x.visited ++ y.visited;
        has_visited = visited_append visits ss ts all x.visited y.visited old mid new e x.has_visited y.has_visited;
        noted = x.noted ++ y.noted;
        after_is = y.after_is ∙ ap (λ l. l ++ y.noted) x.after_is ∙ append_assoc a x.noted y.noted;
        picks = subst (λ l. PicksOf l (x.noted ++ y.noted)) (sym f) (picks-append vs ws x.noted y.noted x.picks y.picks);
        holds = λ v. (
          (λ h.
              subst (λ l. Contains l v) (sym split)
              (⊎_elim
              (λ (here : Contains x.noted v). Contains-append_left (noted_of x.visited) (noted_of y.visited) v ((x.holds v).0 here))
              (λ (later : Contains y.noted v). Contains-append_right (noted_of x.visited) (noted_of y.visited) v ((y.holds v).0 later))
              (Contains-append_cases x.noted y.noted v h))),
          (λ h.
              ⊎_elim
              (λ (here : Contains (noted_of x.visited) v). Contains-append_left x.noted y.noted v ((x.holds v).1 here))
              (λ (later : Contains (noted_of y.visited) v). Contains-append_right x.noted y.noted v ((y.holds v).1 later))
              (Contains-append_cases (noted_of x.visited) (noted_of y.visited) v (subst (λ l. Contains l v) split h))),
        );
      }

  -- a vertex that isn't wanted
  pub pulled_unwanted : (w : Bool) (ss : List Step) (v : ℕ) (old : T) (before : List ℕ) → w ≡ false → HasPulled visits (if w then ss else []) (v ∷ []) old old before before
  pulled_unwanted w ss v old before unwanted = rw unwanted (record { visited = []; has_visited = visited_none visits old; noted = []; after_is = sym (append-nil before); picks = (false ∷ [], refl, refl); holds = λ x. ((λ h. h), (λ h. h)) })

  -- a wanted vertex of which one answer was true, and one of which none was
  pub pulled_hit : (w : Bool) (ss : List Step) (v : ℕ) (old new : T) (before after : List ℕ) (hit : Bool) → w ≡ true → All (λ (s : Step). s.target ≡ v) ss → hit ≡ true → after ≡ before ++ v ∷ [] → HasTried visits ss old new hit → HasPulled visits (if w then ss else []) (v ∷ []) old new before after
  pulled_hit w ss v old new before after hit wanted to is grew x =
      let to' : All (λ (s : Step). s.target ≡ v) (map (λ (y : Visited). y.step) x.visited) = subst (All (λ (s : Step). s.target ≡ v)) (sym x.has_visited.steps_are) to in
      let one : Contains (noted_of x.visited) v = noted_one v x.visited to' (sym x.hit_is ∙ is) in
      rw wanted (record {
        visited = x.visited;
        has_visited = x.has_visited;
        noted = v ∷ [];
        after_is = grew;
        picks = (true ∷ [], refl, refl);
        holds = λ u. (
          (λ h. ⊎_elim
              (λ (e : v ≡ u). subst (λ y. Contains (noted_of x.visited) y) e one)
              (λ (none : Contains [] u). absurd (let (k, lt, at) = none in omega (arith, lt)))
              (Contains-cons_cases v [] u h)),
          (λ h. (0, omega arith, noted_target v u x.visited to' h)),
        );
      })

  pub pulled_unhit : (w : Bool) (ss : List Step) (v : ℕ) (old new : T) (before : List ℕ) (hit : Bool) → w ≡ true → hit ≡ false → HasTried visits ss old new hit → HasPulled visits (if w then ss else []) (v ∷ []) old new before before
  pulled_unhit w ss v old new before hit wanted is x =
      let none : noted_of x.visited ≡ [] = none_noted x.visited (sym x.hit_is ∙ is) in
      rw wanted (record {
        visited = x.visited;
        has_visited = x.has_visited;
        noted = [];
        after_is = sym (append-nil before);
        picks = (false ∷ [], refl, refl);
        holds = λ u. (subst (λ l. Contains l u) (sym none), subst (λ l. Contains l u) none);
      })
