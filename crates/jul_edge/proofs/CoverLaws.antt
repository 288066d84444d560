-- How lists of applications that cover keys are put together, and that the wanted places of rows cover them.
use Rattle.std.proofs.Common.{zero, suc, ◌≡◌, ◌≢◌, ℕ, ◌+◌, ◌-◌, ◌<◌, ◌≤◌, List, [], ◌∷◌, ◌++◌, map, refl, ap, sym, ◌∙◌, subst, arith, All, Bool, true, inl, inr, ⊎_elim}
use Rattle.std.specs.Prelude.{Contains}
use Rattle.std.specs.List.{filter, flat_map, range_with_len}
use Rattle.std.proofs.lemmas.Bool.{cases_Bool, cases_eq}
use Rattle.std.proofs.lemmas.List.{map-append}
use Rattle.std.proofs.lemmas.List.Elements.{All-append, All-nil, All-cons, All-head, All-tail}
use Rattle.jul_base.specs.declared.graphs.RawGraph.{RawGraph}
use Rattle.jul_base.specs.Graph.{vertices, row_start, row_end, target, IsPlaceOf, IsLawful}
use Rattle.jul_base.proofs.GraphLaws.{row_start-le-row_end}
use Rattle.jul_base.proofs.RowLaws.{IsPlaceOf-unique}
use Rattle.jul_base.specs.Times.{times}
use Rattle.jul_base.proofs.TimesLaws.{times-append, times_here, times_other}
use Rattle.jul_edge.specs.declared.functions.Direction.{Direction}
use Rattle.jul_edge.specs.declared.functions.Direction.TheVariants.{Push}
use Rattle.jul_edge.specs.Edges.{Application, IsWanted, places_of}
use Rattle.jul_rows.specs.Visits.{Step, step, push_steps}
use Rattle.jul_edge.specs.Covers.{key_of, app_of, Covers}

-- applications to chosen steps among those of a range
module _ (by : Direction) (g : RawGraph) (f : ℕ → Step) (q : Step → Bool) where
  abbrev Chosen : ℕ → ℕ → List Application
  Chosen a n = map (app_of by g) (filter q (map f (range_with_len a n)))

  pub chosen_all : (P : Application → Type 0) (a n : ℕ) → ((i : ℕ) → a ≤ i → i < a + n → q (f i) ≡ true → P (app_of by g (f i))) → All P (Chosen a n)
  chosen_all P a zero h = All-nil P
  chosen_all P a (suc n) h =
      let rest : All P (Chosen (a + 1) n) = chosen_all P (a + 1) n (λ i lo hi t. h i (omega arith) (omega arith) t) in
      elim (cases_Bool (q (f a))) [
        | inl chosen ↦ rw chosen (All-cons P (app_of by g (f a)) (Chosen (a + 1) n) (h a (omega arith) (omega arith) chosen) rest)
        | inr other ↦ rw other rest
      ]

  pub chosen_none : (p a n : ℕ) → ((i : ℕ) → a ≤ i → i < a + n → (f i).place ≢ p) → times p (places_of (Chosen a n)) ≡ 0
  chosen_none p a zero h = refl
  chosen_none p a (suc n) h =
      let rest : times p (places_of (Chosen (a + 1) n)) ≡ 0 = chosen_none p (a + 1) n (λ i lo hi. h i (omega arith) (omega arith)) in
      let here : times p ((f a).place ∷ []) ≡ 0 = times_other p (f a).place (λ e. h a (omega arith) (omega arith) (sym e)) in
      elim (cases_Bool (q (f a))) [
        | inl chosen ↦ rw chosen (omega (arith, rest, here, times-append p ((f a).place ∷ []) (places_of (Chosen (a + 1) n))))
        | inr other ↦ rw other rest
      ]

  pub chosen_once : (p j a n : ℕ) → a ≤ j → j < a + n → (f j).place ≡ p → q (f j) ≡ true → ((i : ℕ) → a ≤ i → i < a + n → (f i).place ≡ p → i ≡ j) → times p (places_of (Chosen a n)) ≡ 1
  chosen_once p j a zero lo hi at chosen one = absurd (omega arith)
  chosen_once p j a (suc n) lo hi at chosen one =
      ⊎_elim
      (λ (here : j ≡ a).
      let at_a : (f a).place ≡ p = ap (λ i. (f i).place) (sym here) ∙ at in
      let chosen_a : q (f a) ≡ true = ap (λ i. q (f i)) (sym here) ∙ chosen in
      let rest : times p (places_of (Chosen (a + 1) n)) ≡ 0 = chosen_none p (a + 1) n (λ i i_lo i_hi e. let same : i ≡ j = one i (omega arith) (omega arith) e in omega arith) in
      let head : times p ((f a).place ∷ []) ≡ 1 = times_here p (f a).place (sym at_a) in
      rw chosen_a (omega (arith, rest, head, times-append p ((f a).place ∷ []) (places_of (Chosen (a + 1) n)))))
      (λ (later : j ≡ a → ⊥).
      let rest : times p (places_of (Chosen (a + 1) n)) ≡ 1 = chosen_once p j (a + 1) n (grind arith) (omega arith) at chosen (λ i i_lo i_hi e. one i (omega arith) (omega arith) e) in
      let head : times p ((f a).place ∷ []) ≡ 0 = times_other p (f a).place (λ e. later (sym (one a (omega arith) (omega arith) (sym e)))) in
      elim (cases_Bool (q (f a))) [
        | inl taken ↦ rw taken (omega (arith, rest, head, times-append p ((f a).place ∷ []) (places_of (Chosen (a + 1) n))))
        | inr other ↦ rw other rest
      ])
      (cases_eq j a)

module _ (by : Direction) (g : RawGraph) (members : List ℕ) (wanted : ℕ → Bool) where
  pub covers_none : Covers by g members wanted [] []
  covers_none = record { no_other = All-nil _; once = λ a w. refl }

  pub covers_append : (keys more : List ℕ) (xs ys : List Application) → Covers by g members wanted keys xs → Covers by g members wanted more ys → Covers by g members wanted (keys ++ more) (xs ++ ys)
  covers_append keys more xs ys c d = record {
    no_other = All-append (IsWanted by g members wanted) xs ys c.no_other d.no_other;
    once = λ a w.
        ap (times a.place) (map-append (λ (b : Application). b.place) xs ys) ∙ times-append a.place (places_of xs) (places_of ys)
        ∙ omega (arith, c.once a w, d.once a w, times-append (key_of by a) keys more);
  }

module _ (g : RawGraph) (lawful : IsLawful g) (members : List ℕ) (wanted : ℕ → Bool) where
  push_row_covers : (u : ℕ) → u < vertices g → Contains members u → Covers Push g members wanted (u ∷ []) (map (app_of Push g) (push_steps g wanted u))
  push_row_covers u vertex member =
      let f = λ (p : ℕ). step u p (target g p) in
      let q = λ (s : Step). wanted s.target in
      let first = row_start g u in
      let n = row_end g u - row_start g u in
      let ordered : row_start g u ≤ row_end g u = row_start-le-row_end g lawful u vertex in
      let in_row : (i : ℕ) → first ≤ i → i < first + n → IsPlaceOf g u i = λ i lo hi. record { vertex = vertex; from = lo; to = omega arith } in record {
        no_other = chosen_all Push g f q (IsWanted Push g members wanted) first n (λ i lo hi t. record {
          by_is = refl;
          member = member;
          place = in_row i lo hi;
          target_is = refl;
          weight_is = refl;
          target_wanted = t;
        });
        once = λ a w.
            ⊎_elim
            (λ (here : a.source ≡ u).
            let P : ℕ → Type 0 = λ s. IsPlaceOf g s a.place in
            let at : IsPlaceOf g u a.place = subst P here w.place in
            let low : first ≤ a.place = at.from in
            let high : a.place < first + n = omega (arith, at.to) in
            chosen_once Push g f q a.place a.place first n low high refl (ap wanted (sym w.target_is) ∙ w.target_wanted) (λ i lo hi e. e) ∙ sym (times_here a.source u here))
            (λ (other : a.source ≡ u → ⊥).
            chosen_none Push g f q a.place first n (λ i lo hi e. other (let P : ℕ → Type 0 = λ p. IsPlaceOf g u p in IsPlaceOf-unique g lawful a.source u a.place w.place (subst P e (in_row i lo hi)))) ∙ sym (times_other a.source u other))
            (cases_eq a.source u);
      }

  pub push_covers : (us : List ℕ) → All (λ u. (u < vertices g) × Contains members u) us → Covers Push g members wanted us (map (app_of Push g) (flat_map (push_steps g wanted) us))
  push_covers [] h = covers_none Push g members wanted
  push_covers (u ∷ us) h =
      let P : ℕ → Type 0 = λ u. (u < vertices g) × Contains members u in
      let here : P u = All-head P u us h in
      subst (Covers Push g members wanted (u ∷ us)) (sym (map-append (app_of Push g) (push_steps g wanted u) (flat_map (push_steps g wanted) us)))
      (covers_append Push g members wanted (u ∷ []) us _ _ (push_row_covers u here.0 here.1) (push_covers us (All-tail P u us h)))
