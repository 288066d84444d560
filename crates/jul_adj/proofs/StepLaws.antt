-- A reader before and after some tokens.
use Rattle.std.proofs.Common.{◌≡◌, ℕ, zero, suc, ◌+◌, ◌-◌, ◌<◌, ◌≤◌, min, cond, Bool, lit<, List, [], ◌∷◌, length, get_or, take, drop, Option, Some, None, Result, Ok, Err, MatchOption, refl, sym, ◌∙◌, subst, ap, arith, inl, inr}
use Rattle.std.specs.Str.{bytes_eq}
use Rattle.std.proofs.lemmas.Bool.{cases_lt, cond-false, ne_eqb}
use Rattle.jul_base.specs.declared.limits.TheConstants.{MAX_N, MAX_M}
use Rattle.jul_text.specs.Numerals.{numeral}
use Rattle.jul_text.specs.declared.shapes.Shape.TheVariants.{Digits}
use Rattle.jul_text.specs.declared.shapes.Mark.{Mark}
use Rattle.jul_text.specs.Tokens.{Word}
use Rattle.jul_text.specs.Scanning.{word_at, text_at}
use Rattle.jul_text.specs.Shapes.{shape, number_of, mark_at}
use Rattle.jul_base.specs.declared.graphs.RawGraph.{RawGraph}
use Rattle.jul_adj.specs.declared.faults.Fault.{Fault}
use Rattle.jul_adj.specs.declared.faults.FaultKind.{FaultKind}
use Rattle.jul_adj.specs.declared.faults.FaultKind.TheVariants.{TooManyVertices, TooManyEdges, FirstOffset, Truncated, Trailing}
use Rattle.jul_adj.specs.declared.rules.Rule.{Rule}
use Rattle.jul_adj.specs.declared.rules.Rule.TheVariants.{Count, Offset, Target, Weight}
use Rattle.jul_adj.specs.declared.sizes.Sizes.{Sizes}
use Rattle.jul_adj.specs.declared.lists.Lists.{Lists}
use Rattle.jul_adj.specs.declared.readings.Reading.{Reading}
use Rattle.jul_adj.specs.Faults.{kind_at, fault_in, header_fault, next_offset_fault, target_fault}
use Rattle.jul_adj.specs.Roles.{value_at, weighted_word, is_weighted, said_vertices, said_places, first_target, first_weight, all_tokens}
use Rattle.jul_adj.specs.Rules.{rule_fault, IsRuledBy, AreRuled}
use Rattle.jul_adj.specs.Reading.{values_between, graph_of, read_tokens}
use Rattle.jul_adj.specs.Storing.{AreMarks}
use Rattle.jul_adj.specs.Readings.{values_before, AreSizes, AreLists, IsClear, HasRead, IsPart}
use Rattle.std.proofs.lemmas.List.{length-take, length-drop, get_or-take, get_or-drop}
use Rattle.jul_adj.proofs.RoleLaws.{role_offset, role_target, role_weight}
use Rattle.jul_adj.proofs.ReadingLaws.{none_more, reads_fault, reads_truncated, reads_graph, kind_extra, made}
use Rattle.jul_adj.proofs.StoringLaws.{fault_of_mark, value_of_mark}
use Rattle.jul_adj.proofs.ListsLaws.{lists_same}
use Rattle.jul_adj.proofs.LawfulLaws.{length-values, get_or-values}

-- ---- faults

pub clear_at : (ws : List Word) (token : ℕ) (r : Reading) → r.fault ≡ None → HasRead ws token r → (r.token ≡ token) × IsClear ws token r.sizes r.lists
clear_at ws token r none h = subst (λ o. MatchOption o ((r.token ≡ token) × IsClear ws token r.sizes r.lists) (λ f. (len : ℕ) → read_tokens ws len ≡ Err f)) none h

pub clear_now : (ws : List Word) (token t : ℕ) (s : Sizes) (l : Lists) (o : Option Fault) → o ≡ None → t ≡ token → IsClear ws token s l → MatchOption o ((t ≡ token) × IsClear ws token s l) (λ f. (len : ℕ) → read_tokens ws len ≡ Err f)
clear_now ws token t s l o none at clear = subst (λ x. MatchOption x ((t ≡ token) × IsClear ws token s l) (λ f. (len : ℕ) → read_tokens ws len ≡ Err f)) (sym none) (at, clear)

pub faulty : (ws : List Word) (token : ℕ) (r : Reading) (f : Fault) → r.fault ≡ Some f → ((len : ℕ) → read_tokens ws len ≡ Err f) → HasRead ws token r
faulty ws token r f is h = subst (λ o. MatchOption o ((r.token ≡ token) × IsClear ws token r.sizes r.lists) (λ f. (len : ℕ) → read_tokens ws len ≡ Err f)) (sym is) h

pub fault_stays : (ws : List Word) (token token' : ℕ) (r : Reading) (f : Fault) → r.fault ≡ Some f → HasRead ws token r → HasRead ws token' r
fault_stays ws token token' r f is h =
    faulty ws token' r f is (subst (λ o. MatchOption o ((r.token ≡ token) × IsClear ws token r.sizes r.lists) (λ f. (len : ℕ) → read_tokens ws len ≡ Err f)) is h)

-- the fault of the token with the number j was noted
pub refused : (ws : List Word) (j token' k : ℕ) (s : Sizes) (l : Lists) (r : Reading) (kind : FaultKind) (mark : Mark) → IsClear ws j s l → j < length ws → kind_at ws j ≡ Some kind → mark ≡ mark_at 0 (word_at ws j) → k ≡ j →
    r.fault ≡ Some (record { kind = kind; token = k; at = mark.start }) → HasRead ws token' r
refused ws j token' k s l r kind mark clear lt is marked same noted =
    let start : (word_at ws j).start ≡ mark.start = sym (ap (λ (m : Mark). m.start) marked ∙ omega arith) in
    let made : record { kind = kind; token = j; at = (word_at ws j).start } ≡ record { kind = kind; token = k; at = mark.start } =
    ap (λ (x : ℕ). record { kind = kind; token = j; at = x }) start ∙ ap (λ (x : ℕ). record { kind = kind; token = x; at = mark.start }) (sym same) in
    faulty ws token' r _ noted (λ len. reads_fault ws len j kind clear.none lt is ∙ ap (λ (x : Fault). Err x) made)

-- ---- the header

-- the first of some marks
pub first_mark : (ws : List Word) (token : ℕ) (marks : List Mark) (d : Mark) → AreMarks ws token marks → 0 < length marks → get_or marks 0 d ≡ mark_at 0 (word_at ws token)
first_mark ws token marks d are some = are.each 0 d some ∙ ap (λ k. mark_at 0 (word_at ws k)) {x = token + 0} {y = token} (omega arith)

pub one_mark : (ws : List Word) (token : ℕ) (marks : List Mark) (d : Mark) → AreMarks ws token marks → 0 < length marks → AreMarks ws token (get_or marks 0 d ∷ [])
one_mark ws token marks d are some = record {
  there = omega (arith, are.there, some);
  each = λ k e lt. get_first k e lt;
} where
  get_first : (k : ℕ) (e : Mark) → k < 1 → get_or (get_or marks 0 d ∷ []) k e ≡ mark_at 0 (word_at ws (token + k))
  get_first zero e lt = are.each 0 d some
  get_first (suc k) e lt = absurd (omega (arith, lt))

-- the mark of one token
pub shape_here : (ws : List Word) (j : ℕ) (mark : Mark) → AreMarks ws j (mark ∷ []) → (mark ≡ mark_at 0 (word_at ws j)) × (mark.shape ≡ shape (text_at ws j)) × (j < length ws)
shape_here ws j mark are =
    let at : j + 0 ≡ j = omega arith in
    let is : mark ≡ mark_at 0 (word_at ws j) = are.each 0 mark (omega arith) ∙ ap (λ k. mark_at 0 (word_at ws k)) at in
    (is, ap (λ (m : Mark). m.shape) is, omega (arith, are.there))

-- one more token without a fault
clear_more : (ws : List Word) (j : ℕ) (s s' : Sizes) (l : Lists) → IsClear ws j s l → j < 3 → j < length ws → kind_at ws j ≡ None → AreSizes ws (j + 1) s' → IsClear ws (j + 1) s' l
clear_more ws j s s' l clear low lt none sizes = record {
  within = omega arith;
  none = none_more ws j clear.none none;
  sizes = sizes;
  lists = lists_same ws j (j + 1) l (omega arith) (omega arith) clear.lists;
}

pub header_read : (ws : List Word) (s : Sizes) (l : Lists) (mark : Mark) (w : Bool) → IsClear ws 0 s l → AreMarks ws 0 (mark ∷ []) → header_fault (text_at ws 0) ≡ None → bytes_eq (text_at ws 0) weighted_word ≡ w →
    IsClear ws 1 (record { weighted = w; vertices = s.vertices; places = s.places }) l
header_read ws s l mark w clear are none is =
    clear_more ws 0 s _ l clear (lit< tt) (shape_here ws 0 mark are).2 none (record { weighted = λ _. is; vertices = λ lt. absurd (omega (arith, lt)); places = λ lt. absurd (omega (arith, lt)) })

-- ---- the two numbers behind it

abbrev pub vertex_rule : Rule
vertex_rule = Count MAX_N TooManyVertices

abbrev pub place_rule : Rule
place_rule = Count MAX_M TooManyEdges

module _ (ws : List Word) (s : Sizes) (l : Lists) (mark : Mark) (v : ℕ) where
  pub vertices_read : IsClear ws 1 s l → AreMarks ws 1 (mark ∷ []) → mark.shape ≡ Digits v → v ≤ MAX_N → rule_fault vertex_rule (number_of mark.shape MAX_N) ≡ None →
      IsClear ws 2 (record { weighted = s.weighted; vertices = v; places = s.places }) l
  vertices_read clear are is within none =
      let value : said_vertices ws ≡ v = value_of_mark ws 1 0 v (mark ∷ []) mark are (lit< tt) (omega (arith, within)) is in
      clear_more ws 1 s _ l clear (lit< tt) (shape_here ws 1 mark are).2 (fault_of_mark ws 1 0 (mark ∷ []) mark vertex_rule are (lit< tt) (lit< tt) refl ∙ none)
      (record { weighted = λ _. clear.sizes.weighted (lit< tt); vertices = λ _. value; places = λ lt. absurd (omega (arith, lt)) })

  pub places_read : IsClear ws 2 s l → AreMarks ws 2 (mark ∷ []) → mark.shape ≡ Digits v → v ≤ MAX_M → rule_fault place_rule (number_of mark.shape MAX_M) ≡ None →
      IsClear ws 3 (record { weighted = s.weighted; vertices = s.vertices; places = v }) l
  places_read clear are is within none =
      let value : said_places ws ≡ v = value_of_mark ws 2 0 v (mark ∷ []) mark are (lit< tt) (omega (arith, within)) is in
      clear_more ws 2 s _ l clear (lit< tt) (shape_here ws 2 mark are).2 (fault_of_mark ws 2 0 (mark ∷ []) mark place_rule are (lit< tt) (lit< tt) refl ∙ none)
      (record { weighted = λ _. clear.sizes.weighted (lit< tt); vertices = λ _. clear.sizes.vertices (lit< tt); places = λ _. value })

pub vertices_fault : (ws : List Word) (mark : Mark) (kind : FaultKind) → AreMarks ws 1 (mark ∷ []) → rule_fault vertex_rule (number_of mark.shape MAX_N) ≡ Some kind → kind_at ws 1 ≡ Some kind
vertices_fault ws mark kind are is = fault_of_mark ws 1 0 (mark ∷ []) mark vertex_rule are (lit< tt) (lit< tt) refl ∙ is

pub places_fault : (ws : List Word) (mark : Mark) (kind : FaultKind) → AreMarks ws 2 (mark ∷ []) → rule_fault place_rule (number_of mark.shape MAX_M) ≡ Some kind → kind_at ws 2 ≡ Some kind
places_fault ws mark kind are is = fault_of_mark ws 2 0 (mark ∷ []) mark place_rule are (lit< tt) (lit< tt) refl ∙ is

-- ---- the rules of the tokens behind

pub ruled_offsets : (ws : List Word) (token n before m : ℕ) → 3 < token → token + n ≤ first_target ws → before ≡ value_at ws (token - 1) → said_places ws ≡ m → AreRuled ws token n (Offset before m)
ruled_offsets ws token n before m low high is places = record {
  first = λ some. kind token low (omega arith) ∙ ap (λ b. next_offset_fault b (numeral (text_at ws token) m)) (sym is);
  later = λ k pos lt. kind (token + k) (omega arith) (omega arith);
} where
  kind : (j : ℕ) → 3 < j → j < first_target ws → kind_at ws j ≡ next_offset_fault (value_at ws (j - 1)) (numeral (text_at ws j) m)
  kind j low high =
      ap (fault_in ws j) (role_offset ws j (omega arith) high) ∙ cond-false _ _ _ (ne_eqb j 3 (λ e. absurd (omega (arith, e, low)))) ∙ ap (λ p. next_offset_fault (value_at ws (j - 1)) (numeral (text_at ws j) p)) places

pub ruled_first : (ws : List Word) (token n : ℕ) → token ≡ 3 → n ≡ 1 → 3 < first_target ws → AreRuled ws token n (Count 0 FirstOffset)
ruled_first ws token n at one high = record {
  first = λ some. subst (λ j. IsRuledBy ws j (Count 0 FirstOffset)) (sym at) (ap (fault_in ws 3) (role_offset ws 3 (omega arith) high));
  later = λ k pos lt. absurd (omega (arith, one, pos, lt));
}

pub ruled_targets : (ws : List Word) (token n v : ℕ) → first_target ws ≤ token → token + n ≤ first_weight ws → said_vertices ws ≡ v → AreRuled ws token n (Target v)
ruled_targets ws token n v low high vertices = record {
  first = λ some. kind token low (omega arith);
  later = λ k pos lt. kind (token + k) (omega arith) (omega arith);
} where
  kind : (j : ℕ) → first_target ws ≤ j → j < first_weight ws → IsRuledBy ws j (Target v)
  kind j low high = ap (fault_in ws j) (role_target ws j low high) ∙ ap (λ n. target_fault n (numeral (text_at ws j) MAX_N)) vertices

pub ruled_weights : (ws : List Word) (token n : ℕ) → first_weight ws ≤ token → token + n ≤ all_tokens ws → AreRuled ws token n Weight
ruled_weights ws token n low high = record {
  first = λ some. ap (fault_in ws token) (role_weight ws token low (omega arith));
  later = λ k pos lt. ap (fault_in ws (token + k)) (role_weight ws (token + k) (omega arith) (omega arith));
}

pub ruled_fewer : (ws : List Word) (token n m : ℕ) (rule : Rule) → m ≤ n → AreRuled ws token n rule → AreRuled ws token m rule
ruled_fewer ws token n m rule le r = record {
  first = λ some. r.first (omega arith);
  later = λ k pos lt. r.later k pos (omega arith);
}

-- the offsets that were read, of which the last one stands before the token
pub offsets_are : (ws : List Word) (token : ℕ) (s : Sizes) (l : Lists) → IsClear ws token s l → token ≤ first_target ws → l.offsets.items ≡ values_between ws 3 token
offsets_are ws token s l clear high = clear.lists.offsets ∙ ap (values_between ws 3) {x = min token (first_target ws)} {y = token} (omega arith)

pub offsets_count : (ws : List Word) (token : ℕ) (s : Sizes) (l : Lists) → IsClear ws token s l → 3 ≤ token → token ≤ first_target ws → length l.offsets.items + 3 ≡ token
offsets_count ws token s l clear low high = omega (arith, ap length (offsets_are ws token s l clear high), length-values ws 3 token low clear.within)

pub last_offset : (ws : List Word) (token : ℕ) (s : Sizes) (l : Lists) → IsClear ws token s l → 3 < token → token ≤ first_target ws → get_or l.offsets.items (length l.offsets.items - 1) 0 ≡ value_at ws (token - 1)
last_offset ws token s l clear low high =
    let count : length l.offsets.items + 3 ≡ token = offsets_count ws token s l clear (omega arith) high in
    let place : 3 + (length l.offsets.items - 1) ≡ token - 1 = omega (arith, count, low) in
    ap (λ xs. get_or xs (length l.offsets.items - 1) 0) (offsets_are ws token s l clear high) ∙ get_or-values ws 3 token (length l.offsets.items - 1) clear.within (omega (arith, count, low)) ∙ ap (value_at ws) place

-- ---- some of the tokens behind the first three

-- how many tokens the file of the graph has
pub all_are : (ws : List Word) (token : ℕ) (s : Sizes) (l : Lists) → IsClear ws token s l → 2 < token → all_tokens ws ≡ 3 + s.vertices + s.places + cond s.weighted s.places 0
all_are ws token s l clear low =
    let places : said_places ws ≡ s.places = clear.sizes.places low in
    let weights : cond (is_weighted ws) (said_places ws) 0 ≡ cond s.weighted s.places 0 = ap (λ b. cond b (said_places ws) 0) (clear.sizes.weighted (omega arith)) ∙ ap (λ p. cond s.weighted p 0) places in
    omega (arith, places, weights, clear.sizes.vertices (omega arith))

pub marks_front : (ws : List Word) (token n : ℕ) (marks : List Mark) → AreMarks ws token marks → AreMarks ws token (take n marks)
marks_front ws token n marks are = record {
  there = omega (arith, are.there, length-take n marks);
  each = λ k d lt. let low : k < n = omega (arith, lt, length-take n marks) in get_or-take n marks k d low ∙ are.each k d (omega (arith, lt, length-take n marks));
}

pub part_less : (ws : List Word) (rule : Rule) (from to to' : ℕ) → IsPart ws rule from to → to' ≤ to → IsPart ws rule from to'
part_less ws (Count bound above) from to to' p le = (p.0, omega (arith, p.1))
part_less ws (Offset before places) from to to' p le = (p.0, omega (arith, p.1))
part_less ws (Target vertices) from to to' p le = (p.0, omega (arith, p.1))
part_less ws Weight from to to' p le = (p.0, omega (arith, p.1))

pub rows_read : (ws : List Word) (token n : ℕ) (s : Sizes) (l l' : Lists) → IsClear ws token s l → 2 < token → token + n ≤ length ws → ((j : ℕ) → token ≤ j → j < token + n → kind_at ws j ≡ None) → AreLists ws (token + n) l' → IsClear ws (token + n) s l'
rows_read ws token n s l l' clear low within none lists = record {
  within = within;
  none = λ k lt. elim (cases_lt k token) [
    | inl below ↦ clear.none k below
    | inr above ↦ none k above lt
  ];
  sizes = record { weighted = λ _. clear.sizes.weighted (omega arith); vertices = λ _. clear.sizes.vertices (omega arith); places = λ _. clear.sizes.places low };
  lists = lists;
}

pub marks_behind : (ws : List Word) (token n : ℕ) (marks : List Mark) → n ≤ length marks → AreMarks ws token marks → AreMarks ws (token + n) (drop n marks)
marks_behind ws token n marks le are = record {
  there = omega (arith, are.there, length-drop n marks);
  each = λ k d lt. get_or-drop n marks k d ∙ are.each (n + k) d (omega (arith, lt, length-drop n marks)) ∙ ap (λ j. mark_at 0 (word_at ws j)) {x = token + (n + k)} {y = token + n + k} (omega arith);
}

-- ---- the end

pub truncated : (ws : List Word) (len : ℕ) (r : Reading) → r.fault ≡ None → HasRead ws (length ws) r → (r.token < all_tokens ws) → ◌≡◌ {A = Result RawGraph Fault} (Err (record { kind = Truncated; token = r.token; at = len })) (read_tokens ws len)
truncated ws len r none h =
    let c : (r.token ≡ length ws) × IsClear ws (length ws) r.sizes r.lists = clear_at ws (length ws) r none h in
    λ early. ap (λ (k : ℕ). Err (record { kind = Truncated; token = k; at = len })) c.0 ∙ sym (reads_truncated ws len c.1.none (omega (arith, c.0, early)))

-- no token behind the graph was read, or it has a fault
pub no_more : (ws : List Word) (token : ℕ) (s : Sizes) (l : Lists) → IsClear ws token s l → token ≤ all_tokens ws
no_more ws token s l clear = elim (cases_lt (all_tokens ws) token) [
  | inl lt ↦ let e : None ≡ Some Trailing = sym (clear.none (all_tokens ws) lt) ∙ kind_extra ws (all_tokens ws) refl in absurd (cc)
  | inr le ↦ le
]

pub whole : (ws : List Word) (len : ℕ) (r : Reading) (g : RawGraph) → r.fault ≡ None → HasRead ws (length ws) r → all_tokens ws ≤ r.token → 3 ≤ r.token →
    g ≡ record { weighted = r.sizes.weighted; offsets = r.lists.offsets.items; targets = r.lists.targets.items; weights = r.lists.weights.items } → Ok g ≡ read_tokens ws len
whole ws len r g none h late high is =
    let c : (r.token ≡ length ws) × IsClear ws (length ws) r.sizes r.lists = clear_at ws (length ws) r none h in
    let end : length ws ≡ all_tokens ws = omega (arith, c.0, late, no_more ws (length ws) r.sizes r.lists c.1) in
    let all : (from to : ℕ) → to ≤ all_tokens ws → values_before ws (length ws) from to ≡ values_between ws from to = λ from to le. ap (values_between ws from) {x = min (length ws) to} {y = to} (omega (arith, end, le)) in
    let graph : g ≡ graph_of ws =
    is
    ∙ made _ _ _ _ _ _ _ _ (sym (c.1.sizes.weighted (omega (arith, c.0, high))))
    (c.1.lists.offsets ∙ all 3 (first_target ws) (omega arith))
    (c.1.lists.targets ∙ all (first_target ws) (first_weight ws) (omega arith))
    (c.1.lists.weights ∙ all (first_weight ws) (all_tokens ws) (omega arith)) in
    ap (λ (x : RawGraph). Ok x) graph ∙ sym (reads_graph ws len c.1.none end)
