-- A text with the tokens of a lawful graph is read as the graph, however its tokens are spread.
use Rattle.std.proofs.Common.{◌≡◌, ℕ, zero, suc, ◌+◌, ◌-◌, ◌<◌, ◌≤◌, Bool, true, false, cond, List, [], ◌∷◌, ◌++◌, map, length, get_or, take, drop, None, Ok, sym, ◌∙◌, refl, ap, arith, inl, inr, decimal}
use Rattle.std.specs.Str.{bytes_eq}
use Rattle.std.specs.Str.Parse.{digits_value}
use Rattle.std.proofs.lemmas.Bool.{cases_lt, ne_eqb, lt-ltb, le-ltb, cond-true, cond-false}
use Rattle.std.proofs.lemmas.List.{length-map, length-append, get_or-map, get_or_append_left, get_or-append-add, take-map, drop-map, append_assoc, append-nil}
use Rattle.std.proofs.Math.Seq.{take-append_seam, drop-append_seam}
use Rattle.jul_base.specs.declared.graphs.RawGraph.{RawGraph}
use Rattle.jul_base.specs.declared.limits.TheConstants.{MAX_N, MAX_M, MAX_W}
use Rattle.jul_base.specs.Graph.{vertices, places, IsLawful}
use Rattle.jul_text.specs.Tokens.{Word, tokens}
use Rattle.jul_text.specs.Numerals.{numeral}
use Rattle.jul_text.proofs.NumeralLaws.{decimal_value, numeral-decimal}
use Rattle.jul_text.proofs.LineLaws.{texts, texts-lines}
use Rattle.jul_text.specs.Scanning.{text_at, no_word}
use Rattle.jul_adj.specs.declared.faults.FaultKind.TheVariants as kinds
use Rattle.jul_adj.specs.Roles.{value_at, plain_word, weighted_word, said_vertices, said_places, is_weighted, first_target, first_weight, all_tokens}
use Rattle.jul_adj.specs.Faults.{kind_at, fault_in, header_fault, number_fault, next_offset_fault, offset_fault, target_fault, weight_fault, NoneBefore}
use Rattle.jul_adj.specs.Reading.{values_between, graph_of, read_tokens, reads}
use Rattle.jul_adj.specs.Texts.{header_word, graph_tokens, graph_text}
use Rattle.jul_adj.proofs.RoleLaws.{role_offset, role_target, role_weight}
use Rattle.jul_adj.proofs.ReadingLaws.{reads_graph}
use Rattle.jul_adj.proofs.ReadingLaws.{made}
use Rattle.jul_adj.proofs.TextLaws.{AreSmall, small_offsets, small_targets, small_weights, are_tokens, graph_text-short}

values-decimals : (xs : List ℕ) → AreSmall xs → map (digits_value 10) (map decimal xs) ≡ xs
values-decimals [] small = refl
values-decimals (x ∷ xs) small =
    let first : digits_value 10 (decimal x) ≡ x = decimal_value x (omega (arith, small 0 0 (omega arith))) in
    ap (λ v. v ∷ map (digits_value 10) (map decimal xs)) first
    ∙ ap (λ vs. x ∷ vs) (values-decimals xs (λ k d lt. small (suc k) d (omega arith)))

values-texts : (ws : List Word) → map (λ (w : Word). digits_value 10 w.text) ws ≡ map (digits_value 10) (texts ws)
values-texts [] = refl
values-texts (w ∷ ws) = ap (λ vs. digits_value 10 w.text ∷ vs) (values-texts ws)

-- ---- the decimal texts of some numbers are the tokens from one of them on

record StandsAt (ws : List Word) (from : ℕ) (vs : List ℕ) : Type 0 where
  front : List (List ℕ)
  back : List (List ℕ)
  whole : texts ws ≡ front ++ (map decimal vs ++ back)
  place : length front ≡ from

size_of_part : (ws : List Word) (from : ℕ) (vs : List ℕ) → StandsAt ws from vs → from + length vs ≤ length ws
size_of_part ws from vs at =
    omega (arith, ap length at.whole, length-map ws (λ (w : Word). w.text), length-append at.front (map decimal vs ++ at.back), length-append (map decimal vs) at.back, length-map vs decimal, at.place)

text_of_part : (ws : List Word) (from : ℕ) (vs : List ℕ) → StandsAt ws from vs → (k : ℕ) → k < length vs → text_at ws (from + k) ≡ decimal (get_or vs k 0)
text_of_part ws from vs at k lt =
    let place : from + k ≡ length at.front + k = omega (arith, at.place) in
    sym (get_or-map (λ (w : Word). w.text) ws (from + k) no_word [] (omega (arith, size_of_part ws from vs at)))
    ∙ ap (λ ts. get_or ts (from + k) []) at.whole
    ∙ ap (λ j. get_or (at.front ++ (map decimal vs ++ at.back)) j []) place
    ∙ get_or-append-add at.front (map decimal vs ++ at.back) k []
    ∙ get_or_append_left (map decimal vs) at.back [] k (omega (arith, length-map vs decimal))
    ∙ get_or-map decimal vs k 0 [] lt

values_of_part : (ws : List Word) (from to : ℕ) (vs : List ℕ) → StandsAt ws from vs → AreSmall vs → to ≡ from + length vs → values_between ws from to ≡ vs
values_of_part ws from to vs at small e =
    let count : to - from ≡ length (map decimal vs) = omega (arith, length-map vs decimal) in
    values-texts (take (to - from) (drop from ws))
    ∙ ap (map (digits_value 10)) (
    sym (take-map (λ (w : Word). w.text) (to - from) (drop from ws))
    ∙ ap (take (to - from)) (sym (drop-map (λ (w : Word). w.text) from ws) ∙ ap (drop from) at.whole ∙ ap (λ j. drop j (at.front ++ (map decimal vs ++ at.back))) (sym at.place) ∙ drop-append_seam at.front (map decimal vs ++ at.back))
    ∙ ap (λ n. take n (map decimal vs ++ at.back)) count
    ∙ take-append_seam (map decimal vs) at.back)
    ∙ values-decimals vs small

-- ---- the header

header_ok : (b : Bool) → header_fault (cond b weighted_word plain_word) ≡ None
header_ok true = refl
header_ok false = refl

header_says : (b : Bool) → bytes_eq (cond b weighted_word plain_word) weighted_word ≡ b
header_says true = refl
header_says false = refl

-- ---- the tokens of a lawful graph

module _ (g : RawGraph) (lawful : IsLawful g) (ws : List Word) (are : texts ws ≡ graph_tokens g) where
  size : length ws ≡ 3 + (vertices g + (places g + length g.weights))
  size =
      omega (arith, ap length are, length-map ws (λ (w : Word). w.text), length-append (map decimal g.offsets) (map decimal g.targets ++ map decimal g.weights), length-append (map decimal g.targets) (map decimal g.weights), length-map g.offsets decimal, length-map g.targets decimal, length-map g.weights decimal)

  head_is : text_at ws 0 ≡ header_word g
  head_is = sym (get_or-map (λ (w : Word). w.text) ws 0 no_word [] (omega (arith, size))) ∙ ap (λ ts. get_or ts 0 []) are

  counts_at : StandsAt ws 1 (vertices g ∷ places g ∷ [])
  counts_at = record {
    front = header_word g ∷ [];
    back = map decimal g.offsets ++ (map decimal g.targets ++ map decimal g.weights);
    whole = are;
    place = refl;
  }

  offsets_at : StandsAt ws 3 g.offsets
  offsets_at = record {
    front = header_word g ∷ decimal (vertices g) ∷ decimal (places g) ∷ [];
    back = map decimal g.targets ++ map decimal g.weights;
    whole = are;
    place = refl;
  }

  targets_at : StandsAt ws (3 + vertices g) g.targets
  targets_at = record {
    front = header_word g ∷ decimal (vertices g) ∷ decimal (places g) ∷ map decimal g.offsets;
    back = map decimal g.weights;
    whole = are;
    place = omega (arith, length-map g.offsets decimal);
  }

  weights_at : StandsAt ws (3 + vertices g + places g) g.weights
  weights_at = record {
    front = header_word g ∷ decimal (vertices g) ∷ decimal (places g) ∷ (map decimal g.offsets ++ map decimal g.targets);
    back = [];
    whole =
        are
        ∙ ap (λ (rest : List (List ℕ)). header_word g ∷ decimal (vertices g) ∷ decimal (places g) ∷ rest) (
        sym (append_assoc (map decimal g.offsets) (map decimal g.targets) (map decimal g.weights))
        ∙ ap (λ (ts : List (List ℕ)). (map decimal g.offsets ++ map decimal g.targets) ++ ts) (sym (append-nil (map decimal g.weights))));
    place = omega (arith, length-map g.offsets decimal, length-map g.targets decimal, length-append (map decimal g.offsets) (map decimal g.targets));
  }

  -- what the header and the two numbers say
  said_weighted : is_weighted ws ≡ g.weighted
  said_weighted = ap (λ t. bytes_eq t weighted_word) head_is ∙ header_says g.weighted

  vertices_text : text_at ws 1 ≡ decimal (vertices g)
  vertices_text = text_of_part ws 1 (vertices g ∷ places g ∷ []) counts_at 0 (omega arith)

  places_text : text_at ws 2 ≡ decimal (places g)
  places_text = text_of_part ws 1 (vertices g ∷ places g ∷ []) counts_at 1 (omega arith)

  said_n : said_vertices ws ≡ vertices g
  said_n = ap (digits_value 10) vertices_text ∙ decimal_value (vertices g) (omega (arith, lawful.few_vertices))

  said_m : said_places ws ≡ places g
  said_m = ap (digits_value 10) places_text ∙ decimal_value (places g) (omega (arith, lawful.few_places))

  all_are_there : all_tokens ws ≡ length ws
  all_are_there =
      let weights : cond (is_weighted ws) (said_places ws) 0 ≡ length g.weights = ap (λ b. cond b (said_places ws) 0) said_weighted ∙ ap (λ m. cond g.weighted m 0) said_m ∙ sym lawful.weights in
      omega (arith, weights, size, said_n, said_m)

  -- ---- no token has a fault

  header_none : kind_at ws 0 ≡ None
  header_none = ap header_fault head_is ∙ header_ok g.weighted

  vertices_none : kind_at ws 1 ≡ None
  vertices_none =
      ap (λ t. number_fault kinds.TooManyVertices (numeral t MAX_N)) vertices_text
      ∙ ap (number_fault kinds.TooManyVertices) (numeral-decimal (vertices g) MAX_N (omega (arith, lawful.few_vertices)) lawful.few_vertices)

  places_none : kind_at ws 2 ≡ None
  places_none =
      ap (λ t. number_fault kinds.TooManyEdges (numeral t MAX_M)) places_text
      ∙ ap (number_fault kinds.TooManyEdges) (numeral-decimal (places g) MAX_M (omega (arith, lawful.few_places)) lawful.few_places)

  offset_text : (v : ℕ) → v < vertices g → text_at ws (3 + v) ≡ decimal (get_or g.offsets v 0)
  offset_text v lt = text_of_part ws 3 g.offsets offsets_at v lt

  first_offset_none : 0 < vertices g → offset_fault ws 3 ≡ None
  first_offset_none lt =
      ap (λ t. number_fault kinds.FirstOffset (numeral t 0)) (offset_text 0 lt ∙ ap decimal lawful.first)
      ∙ ap (number_fault kinds.FirstOffset) (numeral-decimal 0 0 (omega arith) (omega arith))

  later_offset_none : (v : ℕ) → v + 1 < vertices g → offset_fault ws (3 + (v + 1)) ≡ None
  later_offset_none v lt =
      let o : ℕ = get_or g.offsets (v + 1) 0 in
      let within : o ≤ places g = lawful.within (v + 1) 0 lt in
      let back : 3 + (v + 1) - 1 ≡ 3 + v = omega arith in
      let before : value_at ws (3 + (v + 1) - 1) ≡ get_or g.offsets v 0 =
      ap (value_at ws) back ∙ ap (digits_value 10) (offset_text v (omega (arith, lt))) ∙ decimal_value (get_or g.offsets v 0) (omega (arith, small_offsets g lawful v 0 (omega (arith, lt)))) in
      cond-false _ _ _ (ne_eqb (3 + (v + 1)) 3 (λ e. absurd (omega (arith, e))))
      ∙ ap (λ b. next_offset_fault b (numeral (text_at ws (3 + (v + 1))) (said_places ws))) before
      ∙ ap (λ m. next_offset_fault (get_or g.offsets v 0) (numeral (text_at ws (3 + (v + 1))) m)) said_m
      ∙ ap (λ t. next_offset_fault (get_or g.offsets v 0) (numeral t (places g))) (offset_text (v + 1) lt)
      ∙ ap (next_offset_fault (get_or g.offsets v 0)) (numeral-decimal o (places g) (omega (arith, small_offsets g lawful (v + 1) 0 lt)) within)
      ∙ cond-false _ _ _ (le-ltb o (get_or g.offsets v 0) (lawful.rising v lt))

  offset_none : (v : ℕ) → v < vertices g → kind_at ws (3 + v) ≡ None
  offset_none zero lt = ap (fault_in ws 3) (role_offset ws 3 (omega arith) (omega (arith, said_n, lt))) ∙ first_offset_none lt
  offset_none (suc v) lt =
      let next : 3 + suc v ≡ 3 + (v + 1) = omega arith in
      ap (kind_at ws) next
      ∙ ap (fault_in ws (3 + (v + 1))) (role_offset ws (3 + (v + 1)) (omega arith) (omega (arith, said_n, lt)))
      ∙ later_offset_none v (omega (arith, lt))

  target_none : (p : ℕ) → p < places g → kind_at ws (3 + vertices g + p) ≡ None
  target_none p lt =
      let j : ℕ = 3 + vertices g + p in
      let t : ℕ = get_or g.targets p 0 in
      let below : t < vertices g = lawful.targets p 0 lt in
      ap (fault_in ws j) (role_target ws j (omega (arith, said_n)) (omega (arith, said_n, said_m, lt)))
      ∙ ap (λ n. target_fault n (numeral (text_at ws j) MAX_N)) said_n
      ∙ ap (λ x. target_fault (vertices g) (numeral x MAX_N)) (text_of_part ws (3 + vertices g) g.targets targets_at p lt)
      ∙ ap (target_fault (vertices g)) (numeral-decimal t MAX_N (omega (arith, small_targets g lawful p 0 lt)) (omega (arith, below, lawful.few_vertices)))
      ∙ cond-true _ _ _ (lt-ltb t (vertices g) below)

  weight_none : (p : ℕ) → p < length g.weights → kind_at ws (3 + vertices g + places g + p) ≡ None
  weight_none p lt =
      let j : ℕ = 3 + vertices g + places g + p in
      let w : ℕ = get_or g.weights p 0 in
      ap (fault_in ws j) (role_weight ws j (omega (arith, said_n, said_m)) (omega (arith, all_are_there, size, lt)))
      ∙ ap (λ x. weight_fault (numeral x MAX_W)) (text_of_part ws (3 + vertices g + places g) g.weights weights_at p lt)
      ∙ ap weight_fault (numeral-decimal w MAX_W (omega (arith, small_weights g lawful p 0 lt)) (lawful.light p 0 lt))

  none_behind : (j : ℕ) → 3 ≤ j → j < length ws → kind_at ws j ≡ None
  none_behind j low lt =
      elim (cases_lt j (3 + vertices g)) [
        | inl offset ↦
            let at : j ≡ 3 + (j - 3) = omega arith in
            ap (kind_at ws) at ∙ offset_none (j - 3) (omega (arith, offset))
        | inr past ↦ elim (cases_lt j (3 + vertices g + places g)) [
          | inl target ↦
              let at : j ≡ 3 + vertices g + (j - (3 + vertices g)) = omega arith in
              ap (kind_at ws) at ∙ target_none (j - (3 + vertices g)) (omega (arith, target, past))
          | inr weight ↦
              let at : j ≡ 3 + vertices g + places g + (j - (3 + vertices g + places g)) = omega arith in
              ap (kind_at ws) at ∙ weight_none (j - (3 + vertices g + places g)) (omega (arith, weight, size, lt))
        ]
      ]

  none : NoneBefore ws (length ws)
  none zero lt = header_none
  none (suc zero) lt = vertices_none
  none (suc (suc zero)) lt = places_none
  none (suc (suc (suc j))) lt = none_behind (suc (suc (suc j))) (omega arith) lt

  targets_read : values_between ws (first_target ws) (first_weight ws) ≡ g.targets
  targets_read =
      let start : first_target ws ≡ 3 + vertices g = omega (arith, said_n) in
      ap (λ a. values_between ws a (first_weight ws)) start
      ∙ values_of_part ws (3 + vertices g) (first_weight ws) g.targets targets_at (small_targets g lawful) (omega (arith, said_n, said_m))

  weights_read : values_between ws (first_weight ws) (all_tokens ws) ≡ g.weights
  weights_read =
      let start : first_weight ws ≡ 3 + vertices g + places g = omega (arith, said_n, said_m) in
      ap (λ a. values_between ws a (all_tokens ws)) start
      ∙ values_of_part ws (3 + vertices g + places g) (all_tokens ws) g.weights weights_at (small_weights g lawful) (omega (arith, all_are_there, size))

  same_graph : graph_of ws ≡ g
  same_graph =
      made _ _ _ _ _ _ _ _ said_weighted
      (values_of_part ws 3 (first_target ws) g.offsets offsets_at (small_offsets g lawful) (omega (arith, said_n)))
      targets_read
      weights_read

  tokens_read_back : (len : ℕ) → read_tokens ws len ≡ Ok g
  tokens_read_back len = reads_graph ws len none (sym all_are_there) ∙ ap (λ (x : RawGraph). Ok x) same_graph

-- the text of a lawful graph is read as the graph
pub reads-graph_text : (g : RawGraph) → IsLawful g → (limit : ℕ) → length (graph_text g) ≤ limit → reads (graph_text g) limit ≡ Ok g
unfolding graph_text
reads-graph_text g lawful limit le =
    cond-false _ _ _ (le-ltb limit (length (graph_text g)) le)
    ∙ tokens_read_back g lawful (tokens (graph_text g)) (texts-lines 0 (graph_tokens g) (are_tokens g lawful)) (length (graph_text g))

pub ruleset written_texts = (reads-graph_text, graph_text-short)
