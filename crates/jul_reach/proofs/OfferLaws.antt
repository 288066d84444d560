-- What an edge map leaves of the words to which each edge offers its source, and which targets it gives.
use Rattle.std.proofs.Common.{◌≡◌, ◌⊎◌, ◌↔◌, ℕ, ◌+◌, ◌<◌, ◌≤◌, true, List, [], ◌∷◌, ◌++◌, length, get_or, replicate, refl, sym, ap, ◌∙◌, subst, arith, inl, inr}
use Rattle.std.specs.List.{Contains, All}
use Rattle.std.proofs.lemmas.Bool.{cases_lt}
use Rattle.std.proofs.lemmas.List.{get_or-replicate}
use Rattle.std.proofs.lemmas.List.Elements.{All-contains}
use Rattle.jul_base.specs.declared.graphs.RawGraph.{RawGraph}
use Rattle.jul_base.specs.declared.limits.TheConstants.{NONE}
use Rattle.jul_base.specs.Graph.{vertices, target, weight, IsLawful}
use Rattle.jul_base.specs.Numbers.{IsLeastOrNone, IsColumn}
use Rattle.jul_base.specs.Logs.{Entry, Home}
use Rattle.jul_pool.specs.Added.{HasAdded, first_part, entries_of}
use Rattle.jul_words.specs.Weights.{weigh}
use Rattle.jul_words.specs.Marks.{is_at}
use Rattle.jul_words.specs.Seats.{Seat, home, rooted, logs}
use Rattle.jul_words.specs.Least.{least, word_of, lowering}
use Rattle.jul_words.proofs.Marking.{at_here, at_parts}
use Rattle.jul_words.proofs.LaterLaws.{least_offered, least_fell, least_falls}
use Rattle.jul_subset.specs.Subsets.{Subset}
use Rattle.jul_edge.specs.declared.functions.Direction.{Direction}
use Rattle.jul_edge.specs.Edges.{Application, application, IsWanted}
use Rattle.jul_edge.specs.EdgeMaps.{IsMapped}
use Rattle.jul_edge.proofs.MappedLaws.{EdgeDone, added_of, hits_of, OneOf, hit, hit_by, applied_to, made_wanted, added_by, entries_have, log_grew}
use Rattle.jul_reach.specs.Offering.{IsOfferedAt, IsOffered, Offers}

-- ---- one application

-- a lowering to the source is what an application gives
pub lowered_offers : (a : Application) (old new : Seat) (c n : ℕ) → c ≡ a.source → new ≡ logs old (lowering a.target c n) → HasAdded (Offers a) (old.log ∷ []) (new.log ∷ []) true
lowered_offers a old new c n is logged = record {
  added = (lowering a.target c n ∷ []) ∷ [];
  gives_out = record { answer_is = refl; found = n; added_is = ap (λ x. (lowering a.target x n ∷ []) ∷ []) is };
  log_is = ap (λ (s : Seat). s.log ∷ []) logged;
}

-- ---- where the words start

-- words that start at NONE, without floors
abbrev pub fresh : List ℕ → ℕ → Home
fresh table n = home table (replicate n NONE) (replicate n 0)

-- ---- all of them

module _ (by : Direction) (g : RawGraph) (lawful : IsLawful g) (members table : List ℕ) (old new : Seat) (begun : old ≡ rooted (fresh table (vertices g))) (subset : Subset) (homes : new.home ∷ [] ≡ old.home ∷ [])
    (mapped : IsMapped by g members (λ _. true) (λ a answer added. Offers a answer added) (old.log ∷ []) (new.log ∷ []) subset) (parts : All (λ (d : EdgeDone). length d.added ≤ 1) mapped.done) where
  abbrev entries : List Entry
  entries = entries_of (added_of mapped.done)

  gave : (d : EdgeDone) → Contains mapped.done d → Offers d.to d.answer d.added
  gave d there = All-contains (λ (e : EdgeDone). Offers e.to e.answer e.added) mapped.done d mapped.applied.each there

  -- the word of v is the least of NONE and of what was offered
  pub word_is : (v : ℕ) → v < vertices g → word_of new v ≡ least v NONE ([] ++ entries)
  word_is v lt =
      let same : new.home ≡ old.home = cc in
      let home_is : new.home ≡ fresh table (vertices g) = same ∙ ap (λ (s : Seat). s.home) begun in
      let log_is : new.log ≡ [] ++ entries = log_grew (λ a answer added. Offers a answer added) old.log new.log mapped.done mapped.applied parts ∙ ap (λ (s : Seat). s.log ++ entries) begun in
      ap (λ (h : Home). least v (get_or h.starts v 0) new.log) home_is ∙ ap (λ x. least v x new.log) (get_or-replicate (vertices g) v NONE 0 lt) ∙ ap (least v NONE) log_is

  -- the application that an offer asks for was made
  abbrev app_to : ℕ → ℕ → Application
  app_to u p = application by u p (target g p) (weight g p)

  made_to : (v u p : ℕ) → IsOfferedAt g members v u p → OneOf mapped.done (λ d. d.to ≡ app_to u p)
  made_to v u p h = applied_to by g members (λ _. true) mapped.done lawful mapped.once (app_to u p) (record { by_is = refl; member = h.member; place = h.from; target_is = refl; weight_is = refl; target_wanted = refl })

  -- and what was made is an offer
  offered_by : (d : EdgeDone) → Contains mapped.done d → IsOffered g members d.to.target d.to.source
  offered_by d there =
      let w : IsWanted by g members (λ _. true) d.to = made_wanted by g members (λ _. true) mapped.done mapped.once d there in
      (d.to.place, record { from = w.place; member = w.member; to = sym w.target_is })

  pub targets_are : (v : ℕ) → Contains subset.members v ↔ ((u : ℕ) × IsOffered g members v u)
  targets_are v = (
    λ there.
        let o : OneOf mapped.done (λ d. (d.answer ≡ true) × (d.to.target ≡ v)) = hit_by mapped.done v ((mapped.members_are v).0 there) in
        (o.one.to.source, subst (λ x. IsOffered g members x o.one.to.source) o.holds.1 (offered_by o.one o.there)),
    λ (u, (p, h)).
        let o : OneOf mapped.done (λ d. d.to ≡ app_to u p) = made_to v u p h in
        let at : o.one.to.target ≡ v = ap (λ (a : Application). a.target) o.holds ∙ h.to in
        (mapped.members_are v).1 (subst (Contains (hits_of mapped.done)) at (hit mapped.done o.one o.there (gave o.one o.there).answer_is)),
  )

  lower : (v u : ℕ) → v < vertices g → IsOffered g members v u → word_of new v ≤ u
  lower v u lt (p, h) =
      let o : OneOf mapped.done (λ d. d.to ≡ app_to u p) = made_to v u p h in
      let r : Offers (app_to u p) o.one.answer o.one.added = subst (λ b. Offers b o.one.answer o.one.added) o.holds (gave o.one o.there) in
      let e : Entry = lowering (target g p) u r.found in
      let some : weigh (is_at v u) (first_part o.one.added) ≡ is_at v u e + 0 = ap (λ l. weigh (is_at v u) (first_part l)) r.added_is in
      omega (arith, word_is v lt, least_offered v NONE u [] entries (omega (arith, some, at_here v u e h.to refl, entries_have (is_at v u) mapped.done o.one o.there)))

  each : (v : ℕ) → v < vertices g → (word_of new v ≡ NONE) ⊎ IsOffered g members v (word_of new v)
  each v lt =
      let n : ℕ = least v NONE ([] ++ entries) in
      let is : word_of new v ≡ n = word_is v lt in
      elim (cases_lt n NONE) [
        | inr same ↦ inl (omega (arith, is, same, least_falls v NONE [] entries))
        | inl fell ↦
            let o : OneOf mapped.done (λ d. 0 < weigh (is_at v n) (first_part d.added)) = added_by (is_at v n) mapped.done (least_fell v NONE [] entries fell) in
            let r : Offers o.one.to o.one.answer o.one.added = gave o.one o.there in
            let e : Entry = lowering o.one.to.target o.one.to.source r.found in
            let one : weigh (is_at v n) (first_part o.one.added) ≡ is_at v n e + 0 = ap (λ l. weigh (is_at v n) (first_part l)) r.added_is in
            let at : (o.one.to.target ≡ v) × (o.one.to.source ≡ n) = at_parts v n e (omega (arith, one, o.holds)) in
            inr (subst (λ x. IsOffered g members v x) (at.1 ∙ sym is) (subst (λ x. IsOffered g members x o.one.to.source) at.0 (offered_by o.one o.there)))
      ]

  -- a vertex that is offered is no NONE
  small : (v u : ℕ) → IsOffered g members v u → u < NONE
  small v u (p, h) = omega (arith, h.from.vertex, lawful.few_vertices)

  pub sources_are : (numbers : List ℕ) → length numbers ≡ vertices g → ((v : ℕ) → v < vertices g → get_or numbers v 0 ≡ word_of new v) → IsColumn (vertices g) (λ v. IsLeastOrNone (IsOffered g members v)) numbers
  sources_are numbers size are = record {
    size = size;
    each = λ v lt. record {
      least = λ some. record {
        holds = elim (each v lt) [ inl none ↦ absurd (some (are v lt ∙ none)) | inr there ↦ subst (IsOffered g members v) (sym (are v lt)) there ];
        least = λ u there. omega (arith, are v lt, lower v u lt there);
      };
      none = λ is u there. omega (arith, is, are v lt, lower v u lt there, small v u there);
    };
  }
