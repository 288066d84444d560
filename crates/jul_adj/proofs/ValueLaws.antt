-- Numbers that meet a rule are those of tokens without a fault.
use Rattle.std.proofs.Common.{◌≡◌, ℕ, suc, ◌+◌, ◌<◌, ◌≤◌, ◌^◌, List, [], ◌∷◌, ◌++◌, length, get_or, drop, None, refl, sym, ◌∙◌, subst, ap, arith, append-nil, append_assoc}
use Rattle.std.specs.List.{All}
use Rattle.std.proofs.lemmas.Bool.{le-ltb, lt-ltb, le-leb, cond-true, cond-false}
use Rattle.std.proofs.lemmas.List.{length-map, get_or-map, drop_more}
use Rattle.jul_base.specs.declared.limits.TheConstants.{MAX_N, MAX_W}
use Rattle.jul_text.specs.declared.shapes.Shape.TheVariants.{Digits, Plain}
use Rattle.jul_text.specs.declared.shapes.Mark.{Mark}
use Rattle.jul_text.specs.Shapes.{number_of}
use Rattle.jul_text.specs.Tokens.{Word}
use Rattle.jul_adj.specs.declared.rules.Rule.{Rule}
use Rattle.jul_adj.specs.declared.rules.Rule.TheVariants.{Offset, Target, Weight}
use Rattle.jul_adj.specs.Faults.{kind_at}
use Rattle.jul_adj.specs.Rules.{bound_of, rule_fault, behind, AreRuled}
use Rattle.jul_adj.specs.Reading.{values_between}
use Rattle.jul_adj.specs.Storing.{AreMarks, AreStored}
use Rattle.jul_adj.specs.Values.{Rises, Meets, HaveValues, AreValues}
use Rattle.jul_adj.proofs.StoringLaws.{IsStoring, storing_none, storing_more, behind-behind, bound_of-behind}

-- ---- what meets a rule

below : (P : ℕ → Type 0) (v : ℕ) (vs : List ℕ) → All P (v ∷ vs) → All P vs
below P v vs all k d lt = all (suc k) d (omega (arith, lt))

pub offsets_meet : (before most places : ℕ) (vs : List ℕ) → most ≤ places → All (λ v. v ≤ most) vs → Rises before vs → Meets (Offset before places) vs
offsets_meet before most places [] le all rises = tt
offsets_meet before most places (v ∷ vs) le all rises =
    let small : v ≤ most = all 0 0 (omega arith) in
    (omega (arith, small, le), cond-false _ _ _ (le-ltb v before rises.0), offsets_meet v most places vs le (below (λ n. n ≤ most) v vs all) rises.1)

pub targets_meet : (most vertices : ℕ) (vs : List ℕ) → most ≤ MAX_N → most < vertices → All (λ v. v ≤ most) vs → Meets (Target vertices) vs
targets_meet most vertices [] low lt all = tt
targets_meet most vertices (v ∷ vs) low lt all =
    let small : v ≤ most = all 0 0 (omega arith) in
    (omega (arith, small, low), cond-true _ _ _ (lt-ltb v vertices (omega (arith, small, lt))), targets_meet most vertices vs low lt (below (λ n. n ≤ most) v vs all))

pub weights_meet : (most : ℕ) (vs : List ℕ) → most ≤ MAX_W → All (λ v. v ≤ most) vs → Meets Weight vs
weights_meet most [] le all = tt
weights_meet most (v ∷ vs) le all =
    let small : v ≤ most = all 0 0 (omega arith) in
    (omega (arith, small, le), refl, weights_meet most vs le (below (λ n. n ≤ most) v vs all))

-- one more number that isn't below the one before it
pub rises_more : (before from v i : ℕ) (vs : List ℕ) → i < length vs → get_or vs i 0 ≡ v → before ≤ v → (Rises before (drop i vs) → Rises from vs) → Rises v (drop (i + 1) vs) → Rises from vs
rises_more before from v i vs lt is le h rest =
    h (subst (Rises before) (sym (drop_more vs i 0 lt ∙ ap (λ x. x ∷ drop (i + 1) vs) is)) (le, rest))

-- ---- tokens with these values

blank : Mark
blank = record { start = 0; shape = Plain }

shape_at : (marks : List Mark) (values : List ℕ) (k : ℕ) (d : Mark) → HaveValues marks values → k < length values → (get_or marks k d).shape ≡ Digits (get_or values k 0)
shape_at marks values k d have lt =
    let size : length marks ≡ length values = sym (length-map marks (λ (m : Mark). m.shape)) ∙ ap length have ∙ length-map values (λ (v : ℕ). Digits v) in
    sym (get_or-map (λ (m : Mark). m.shape) marks k d Plain (omega (arith, size, lt)))
    ∙ ap (λ ss. get_or ss k Plain) have
    ∙ get_or-map (λ (v : ℕ). Digits v) values k 0 Plain lt

pub count_of : (marks : List Mark) (values : List ℕ) → HaveValues marks values → length marks ≡ length values
count_of marks values have = sym (length-map marks (λ (m : Mark). m.shape)) ∙ ap length have ∙ length-map values (λ (v : ℕ). Digits v)

module _ (ws : List Word) (token : ℕ) (first : Rule) (marks : List Mark) (old : List ℕ) (are : AreMarks ws token marks) (ruled : AreRuled ws token (length marks) first) where
  -- the numbers that are left are stored too
  store_on : (rest : List ℕ) (n : ℕ) (rule : Rule) (new : List ℕ) → n + length rest ≡ length marks → ((k : ℕ) → k < length rest → (get_or marks (n + k) blank).shape ≡ Digits (get_or rest k 0)) → bound_of rule < 2 ^ 32 →
      ((w : ℕ) → behind rule w ≡ behind first w) → Meets rule rest → IsStoring ws token n (length marks) rule old new → AreStored ws token (length marks) old (new ++ rest)
  store_on [] n rule new all shapes small same meets s =
      let size : n ≡ length marks = omega (arith, all) in
      subst (λ k. AreStored ws token k old (new ++ [])) size (subst (AreStored ws token n old) (sym (append-nil new)) s.stored)
  store_on (v ∷ vs) n rule new all shapes small same meets s =
      let lt : n < length marks = omega (arith, all) in
      let is : (get_or marks n blank).shape ≡ Digits v = ap (λ k. (get_or marks k blank).shape) {x = n} {y = n + 0} (omega arith) ∙ shapes 0 (omega arith) in
      let none : rule_fault rule (number_of (get_or marks n blank).shape (bound_of rule)) ≡ None =
      ap (λ q. rule_fault rule (number_of q (bound_of rule))) is ∙ ap (rule_fault rule) (cond-true _ _ _ (le-leb v (bound_of rule) meets.0)) ∙ meets.1 in
      let next : IsStoring ws token (n + 1) (length marks) (behind rule v) old (new ++ v ∷ []) = storing_more ws token n v marks blank first rule old new are ruled lt small same is meets.0 none s in
      subst (AreStored ws token (length marks) old) (append_assoc new (v ∷ []) vs)
      (store_on vs (n + 1) (behind rule v) (new ++ v ∷ []) (omega (arith, all)) (λ k le. ap (λ j. (get_or marks j blank).shape) {x = n + 1 + k} {y = n + suc k} (omega arith) ∙ shapes (suc k) (omega (arith, le)))
      (omega (arith, small, bound_of-behind rule v)) (λ w. behind-behind rule v w ∙ same w) meets.2 next)

pub values_met : (ws : List Word) (token : ℕ) (rule : Rule) (marks : List Mark) (values : List ℕ) → AreMarks ws token marks → HaveValues marks values → AreRuled ws token (length values) rule → bound_of rule < 2 ^ 32 → Meets rule values → AreValues ws token values
values_met ws token rule marks values are have ruled small meets =
    let size : length marks ≡ length values = count_of marks values have in
    let ruled' : AreRuled ws token (length marks) rule = subst (λ n. AreRuled ws token n rule) (sym size) ruled in
    let stored : AreStored ws token (length marks) [] values =
    store_on ws token rule marks [] are ruled' values 0 rule [] (omega (arith, size)) (λ k lt. ap (λ j. (get_or marks j blank).shape) {x = 0 + k} {y = k} (omega arith) ∙ shape_at marks values k blank have lt) small (λ w. refl) meets
    (storing_none ws token (length marks) rule [] ruled') in
    subst (λ n. ((j : ℕ) → token ≤ j → j < token + n → kind_at ws j ≡ None) → values ≡ values_between ws token (token + n) → AreValues ws token values) (sym size) (λ none is. record { none = none; are = is }) stored.none stored.values

-- appended to a list they are stored
pub are_stored : (ws : List Word) (token : ℕ) (values old new : List ℕ) → AreValues ws token values → new ≡ old ++ values → AreStored ws token (length values) old new
are_stored ws token values old new are is = record { none = are.none; values = is ∙ ap (λ vs. old ++ vs) are.are }
