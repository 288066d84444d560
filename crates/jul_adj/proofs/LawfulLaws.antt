-- A graph that was read is lawful.
use Rattle.std.proofs.Common.{◌≡◌, ℕ, zero, suc, ◌+◌, ◌-◌, ◌<◌, ◌≤◌, Bool, true, false, cond, leb, List, [], ◌∷◌, length, get_or, take, drop, Option, Some, None, Ok, Err, sym, ◌∙◌, subst, refl, ap, arith, inl, inr}
use Rattle.std.specs.List.{filter_map, range_with_len, cons_option}
use Rattle.std.specs.Str.Parse.{digits_value}
use Rattle.std.proofs.lemmas.Bool.{cases_eq, cases_lt, ne_eqb, lt-ltb, le-ltb, leb-true, cond-true, cond-false}
use Rattle.std.proofs.lemmas.List.{length-take, length-drop, length-map, get_or-map, get_or-take, get_or-drop, get_or_past}
use Rattle.std.proofs.lemmas.List.Elements.{All-from_get_or}
use Rattle.jul_base.specs.declared.graphs.RawGraph.{RawGraph}
use Rattle.jul_base.specs.declared.limits.TheConstants.{MAX_N, MAX_M, MAX_W}
use Rattle.jul_base.specs.Graph.{vertices, places, IsLawful}
use Rattle.jul_text.specs.Tokens.{Word}
use Rattle.jul_text.specs.Numerals.{numeral, is_numeral, is_negative}
use Rattle.jul_text.specs.declared.numerals.Numeral.{Numeral}
use Rattle.jul_text.specs.declared.numerals.Numeral.TheVariants.{Value, Above, Negative, Bad}
use Rattle.jul_text.specs.Scanning.{text_at, no_word}
use Rattle.jul_adj.specs.declared.faults.Fault.{Fault}
use Rattle.jul_adj.specs.declared.faults.FaultKind.{FaultKind}
use Rattle.jul_adj.specs.declared.faults.FaultKind.TheVariants as kinds
use Rattle.jul_adj.specs.Roles.{value_at, said_vertices, said_places, first_target, first_weight, all_tokens, is_weighted}
use Rattle.jul_adj.specs.Faults.{weight_fault, kind_at, fault_in, fault_at, with_place, faults, number_fault, next_offset_fault, target_fault, offset_fault, NoneBefore}
use Rattle.std.specs.Prelude.{Result, IfOk}
use Rattle.jul_adj.specs.declared.faults.ReadError.{ReadError}
use Rattle.jul_adj.specs.Reading.{values_between, graph_of, decided, read_tokens, Gives}
use Rattle.jul_adj.proofs.RoleLaws.{role_offset, role_target, role_weight}

-- ---- no fault at all

one_none : (ws : List Word) (j : ℕ) (o : Option FaultKind) (rest : List Fault) → cons_option (with_place ws j o) rest ≡ [] → (o ≡ None) × (rest ≡ [])
one_none ws j None rest e = (refl, e)
one_none ws j (Some k) rest e = absurd (cc)

all_none : (ws : List Word) (n a : ℕ) → filter_map (fault_at ws) (range_with_len a n) ≡ [] → (j : ℕ) → a ≤ j → j < a + n → kind_at ws j ≡ None
all_none ws zero a e j low high = absurd (omega arith)
all_none ws (suc n) a e j low high =
    let here : (kind_at ws a ≡ None) × (filter_map (fault_at ws) (range_with_len (a + 1) n) ≡ []) = one_none ws a (kind_at ws a) _ e in
    elim (cases_eq j a) [ inl same ↦ ap (kind_at ws) same ∙ here.0 | inr other ↦ all_none ws n (a + 1) here.1 j (omega arith) (omega arith) ]

-- what a text was read as
record IsRead (ws : List Word) (g : RawGraph) : Type 0 where
  none : NoneBefore ws (length ws)
  enough : all_tokens ws ≤ length ws
  graph : graph_of ws ≡ g

decided_ok : (ws : List Word) (len : ℕ) (fs : List Fault) (g : RawGraph) → decided ws len fs ≡ Ok g → (fs ≡ []) × (all_tokens ws ≤ length ws) × (graph_of ws ≡ g)
decided_ok ws len (f ∷ fs) g e = absurd (cc)
decided_ok ws len [] g e =
    elim (cases_lt (length ws) (all_tokens ws)) [
      | inl lt ↦ let err : decided ws len [] ≡ Err (record { kind = kinds.Truncated; token = length ws; at = len }) = cond-true _ _ _ (lt-ltb _ _ lt) in absurd (cc)
      | inr le ↦ let ok : decided ws len [] ≡ Ok (graph_of ws) = cond-false _ _ _ (le-ltb _ _ le) in (refl, le, cc)
    ]

is_read : (ws : List Word) (len : ℕ) (g : RawGraph) → read_tokens ws len ≡ Ok g → IsRead ws g
is_read ws len g e =
    let d : (faults ws ≡ []) × (all_tokens ws ≤ length ws) × (graph_of ws ≡ g) = decided_ok ws len (faults ws) g e in
    record { none = λ k lt. all_none ws (length ws) 0 d.0 k (omega arith) (omega arith); enough = d.1; graph = d.2 }

-- ---- what a number without a fault is

number_ok : (above : FaultKind) (n : Numeral) → number_fault above n ≡ None → (v : ℕ) × (n ≡ Value v)
number_ok above (Value v) e = (v, refl)
number_ok above Above e = absurd (cc)
number_ok above Negative e = absurd (cc)
number_ok above Bad e = absurd (cc)

next_offset_ok : (before : ℕ) (n : Numeral) → next_offset_fault before n ≡ None → (v : ℕ) × (n ≡ Value v) × (before ≤ v)
next_offset_ok before (Value v) e =
    elim (cases_lt v before) [
      | inl lt ↦ let some : next_offset_fault before (Value v) ≡ Some kinds.OffsetOrder = cond-true _ _ _ (lt-ltb _ _ lt) in absurd (cc)
      | inr le ↦ (v, refl, le)
    ]
next_offset_ok before Above e = absurd (cc)
next_offset_ok before Negative e = absurd (cc)
next_offset_ok before Bad e = absurd (cc)

target_ok : (n : ℕ) (x : Numeral) → target_fault n x ≡ None → (v : ℕ) × (x ≡ Value v) × (v < n)
target_ok n (Value v) e =
    elim (cases_lt v n) [
      | inl lt ↦ (v, refl, lt)
      | inr le ↦ let some : target_fault n (Value v) ≡ Some kinds.TargetRange = cond-false _ _ _ (le-ltb _ _ le) in absurd (cc)
    ]
target_ok n Above e = absurd (cc)
target_ok n Negative e = absurd (cc)
target_ok n Bad e = absurd (cc)

weight_ok : (n : Numeral) → weight_fault n ≡ None → (v : ℕ) × (n ≡ Value v)
weight_ok (Value v) e = (v, refl)
weight_ok Above e = absurd (cc)
weight_ok Negative e = absurd (cc)
weight_ok Bad e = absurd (cc)

-- the values of a range of tokens, one by one
pub length-values : (ws : List Word) (from to : ℕ) → from ≤ to → to ≤ length ws → length (values_between ws from to) ≡ to - from
length-values ws from to le in' = length-map (take (to - from) (drop from ws)) (λ (w : Word). digits_value 10 w.text) ∙ omega (arith, length-take (to - from) (drop from ws), length-drop from ws)

pub get_or-values : (ws : List Word) (from to k : ℕ) → to ≤ length ws → from + k < to → get_or (values_between ws from to) k 0 ≡ value_at ws (from + k)
get_or-values ws from to k in' lt =
    get_or-map (λ (w : Word). digits_value 10 w.text) (take (to - from) (drop from ws)) k no_word 0 (omega (arith, length-take (to - from) (drop from ws), length-drop from ws))
    ∙ ap (λ (w : Word). digits_value 10 w.text) (get_or-take (to - from) (drop from ws) k no_word (omega arith) ∙ get_or-drop from ws k no_word)

-- ---- the parts of a lawful graph

by_tests : (a b c : Bool) (x v : ℕ) → cond a (cond b (Value x) Above) (cond c Negative Bad) ≡ Value v → (b ≡ true) × (x ≡ v)
by_tests true true c x v e = (refl, cc)
by_tests true false c x v e = absurd (cc)
by_tests false b true x v e = absurd (cc)
by_tests false b false x v e = absurd (cc)

numeral_value : (text : List ℕ) (bound v : ℕ) → numeral text bound ≡ Value v → (digits_value 10 text ≡ v) × (v ≤ bound)
numeral_value text bound v e =
    let t : (leb (digits_value 10 text) bound ≡ true) × (digits_value 10 text ≡ v) = by_tests (is_numeral text) (leb (digits_value 10 text) bound) (is_negative text) (digits_value 10 text) v e in
    (t.1, omega (arith, leb-true _ _ t.0, t.1))

module _ (ws : List Word) (none : NoneBefore ws (length ws)) (enough : all_tokens ws ≤ length ws) where
  few_vertices : said_vertices ws ≤ MAX_N
  few_vertices =
      let n : (v : ℕ) × (numeral (text_at ws 1) MAX_N ≡ Value v) = number_ok kinds.TooManyVertices (numeral (text_at ws 1) MAX_N) (none 1 (omega (arith, enough))) in
      let v : (digits_value 10 (text_at ws 1) ≡ n.0) × (n.0 ≤ MAX_N) = numeral_value (text_at ws 1) MAX_N n.0 n.1 in
      omega (arith, v.0, v.1)

  few_places : said_places ws ≤ MAX_M
  few_places =
      let n : (v : ℕ) × (numeral (text_at ws 2) MAX_M ≡ Value v) = number_ok kinds.TooManyEdges (numeral (text_at ws 2) MAX_M) (none 2 (omega (arith, enough))) in
      let v : (digits_value 10 (text_at ws 2) ≡ n.0) × (n.0 ≤ MAX_M) = numeral_value (text_at ws 2) MAX_M n.0 n.1 in
      omega (arith, v.0, v.1)

  first_zero : 0 < said_vertices ws → value_at ws 3 ≡ 0
  first_zero some =
      let kind : offset_fault ws 3 ≡ None = sym (ap (fault_in ws 3) (role_offset ws 3 (omega arith) (omega arith))) ∙ none 3 (omega (arith, enough)) in
      let n : (v : ℕ) × (numeral (text_at ws 3) 0 ≡ Value v) = number_ok kinds.FirstOffset (numeral (text_at ws 3) 0) kind in
      let v : (digits_value 10 (text_at ws 3) ≡ n.0) × (n.0 ≤ 0) = numeral_value (text_at ws 3) 0 n.0 n.1 in
      omega (arith, v.0, v.1)

  later_offset : (j : ℕ) → 3 < j → j < first_target ws → (value_at ws (j - 1) ≤ value_at ws j) × (value_at ws j ≤ said_places ws)
  later_offset j low high =
      let kind : offset_fault ws j ≡ None = sym (ap (fault_in ws j) (role_offset ws j (omega arith) high)) ∙ none j (omega (arith, enough, high)) in
      let later : next_offset_fault (value_at ws (j - 1)) (numeral (text_at ws j) (said_places ws)) ≡ None = sym (cond-false _ _ _ (ne_eqb j 3 (λ e. absurd (omega (arith, e, low))))) ∙ kind in
      let n : (v : ℕ) × (numeral (text_at ws j) (said_places ws) ≡ Value v) × (value_at ws (j - 1) ≤ v) = next_offset_ok (value_at ws (j - 1)) (numeral (text_at ws j) (said_places ws)) later in
      let v : (digits_value 10 (text_at ws j) ≡ n.0) × (n.0 ≤ said_places ws) = numeral_value (text_at ws j) (said_places ws) n.0 n.1 in
      (omega (arith, v.0, n.2), omega (arith, v.0, v.1))

  target_below : (j : ℕ) → first_target ws ≤ j → j < first_weight ws → value_at ws j < said_vertices ws
  target_below j low high =
      let kind : target_fault (said_vertices ws) (numeral (text_at ws j) MAX_N) ≡ None = sym (ap (fault_in ws j) (role_target ws j low high)) ∙ none j (omega (arith, enough, high)) in
      let n : (v : ℕ) × (numeral (text_at ws j) MAX_N ≡ Value v) × (v < said_vertices ws) = target_ok (said_vertices ws) (numeral (text_at ws j) MAX_N) kind in
      let v : (digits_value 10 (text_at ws j) ≡ n.0) × (n.0 ≤ MAX_N) = numeral_value (text_at ws j) MAX_N n.0 n.1 in
      omega (arith, v.0, n.2)

  weight_within : (j : ℕ) → first_weight ws ≤ j → j < all_tokens ws → value_at ws j ≤ MAX_W
  weight_within j low high =
      let kind : weight_fault (numeral (text_at ws j) MAX_W) ≡ None = sym (ap (fault_in ws j) (role_weight ws j low high)) ∙ none j (omega (arith, enough, high)) in
      let n : (v : ℕ) × (numeral (text_at ws j) MAX_W ≡ Value v) = weight_ok (numeral (text_at ws j) MAX_W) kind in
      let v : (digits_value 10 (text_at ws j) ≡ n.0) × (n.0 ≤ MAX_W) = numeral_value (text_at ws j) MAX_W n.0 n.1 in
      omega (arith, v.0, v.1)

  offsets_size : length (graph_of ws).offsets ≡ said_vertices ws
  offsets_size = length-values ws 3 (first_target ws) (omega arith) (omega (arith, enough)) ∙ omega arith

  targets_size : length (graph_of ws).targets ≡ said_places ws
  targets_size = length-values ws (first_target ws) (first_weight ws) (omega arith) (omega (arith, enough)) ∙ omega arith

  weights_size : length (graph_of ws).weights ≡ all_tokens ws - first_weight ws
  weights_size = length-values ws (first_weight ws) (all_tokens ws) (omega arith) enough

  offset_is : (v : ℕ) → v < said_vertices ws → get_or (graph_of ws).offsets v 0 ≡ value_at ws (3 + v)
  offset_is v lt = get_or-values ws 3 (first_target ws) v (omega (arith, enough)) (omega (arith, lt))

  lawful : IsLawful (graph_of ws)
  lawful = record {
    few_vertices = omega (arith, offsets_size, few_vertices);
    few_places = omega (arith, targets_size, few_places);
    first = elim (cases_lt 0 (said_vertices ws)) [
      | inl some ↦ offset_is 0 some ∙ first_zero some
      | inr no_vertex ↦ get_or_past (graph_of ws).offsets 0 0 (omega (arith, offsets_size, no_vertex))
    ];
    rising = λ v lt.
        let v_lt : v + 1 < said_vertices ws = omega (arith, offsets_size, lt) in
        let back : (3 + (v + 1)) - 1 ≡ 3 + v = omega arith in
        omega (arith, offset_is v (omega (arith, v_lt)), offset_is (v + 1) v_lt, (later_offset (3 + (v + 1)) (omega arith) (omega (arith, v_lt))).0, ap (value_at ws) back);
    within = All-from_get_or (λ o. o ≤ places (graph_of ws)) (graph_of ws).offsets 0 (λ v lt.
        let v_lt : v < said_vertices ws = omega (arith, offsets_size, lt) in
        elim (cases_lt 0 v) [
          | inl later ↦ omega (arith, offset_is v v_lt, targets_size, (later_offset (3 + v) (omega (arith, later)) (omega (arith, v_lt))).1)
          | inr at_none ↦
              let at_first : 3 + v ≡ 3 = omega (arith, at_none) in
              omega (arith, offset_is v v_lt, ap (value_at ws) at_first, first_zero (omega (arith, v_lt)))
        ]);
    targets = All-from_get_or (λ w. w < vertices (graph_of ws)) (graph_of ws).targets 0 (λ k lt.
        let k_lt : k < said_places ws = omega (arith, targets_size, lt) in
        omega (arith, offsets_size, get_or-values ws (first_target ws) (first_weight ws) k (omega (arith, enough)) (omega (arith, k_lt)), target_below (first_target ws + k) (omega arith) (omega (arith, k_lt))));
    weights = weights_size ∙ omega arith ∙ ap (λ m. cond (is_weighted ws) m 0) (sym targets_size);
    light = All-from_get_or (λ w. w ≤ MAX_W) (graph_of ws).weights 0 (λ k lt.
        let k_lt : first_weight ws + k < all_tokens ws = omega (arith, weights_size, lt) in
        omega (arith, get_or-values ws (first_weight ws) (all_tokens ws) k enough k_lt, weight_within (first_weight ws + k) (omega arith) k_lt));
    empty = λ no_vertex. elim (cases_lt 0 (said_places ws)) [
      | inl some ↦ absurd (omega (arith, offsets_size, no_vertex, target_below (first_target ws) (omega arith) (omega (arith, some))))
      | inr no_place ↦ omega (arith, targets_size, no_place)
    ];
  }

-- what is read is lawful
pub read_is_lawful : (ws : List Word) (len : ℕ) (g : RawGraph) → read_tokens ws len ≡ Ok g → IsLawful g
read_is_lawful ws len g e =
    let r : IsRead ws g = is_read ws len g e in
    subst IsLawful r.graph (lawful ws r.none r.enough)

pub given_is_lawful : (ws : List Word) (len : ℕ) (r : Result RawGraph ReadError) → Gives r (read_tokens ws len) → IfOk r IsLawful
given_is_lawful ws len (Ok g) h = read_is_lawful ws len g h
given_is_lawful ws len (Err e) h = tt
