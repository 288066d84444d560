-- The text of a lawful graph: its parts, its tokens, and its length.
use Rattle.std.proofs.Common.{◌≡◌, ℕ, suc, ◌+◌, ◌*◌, ◌^◌, ◌<◌, ◌≤◌, Bool, true, false, ◌&&◌, cond, List, [], ◌∷◌, ◌++◌, map, length, get_or, take, drop, sym, ◌∙◌, refl, ap, arith, decimal}
use Rattle.std.specs.List.{All, flat_map, list_all}
use Rattle.std.proofs.lemmas.List.{length-append, append_assoc, append-nil, take_more, map_push, map-append, take-append-drop}
use Rattle.std.proofs.lemmas.List.Folds.{list_all-append}
use Rattle.std.proofs.lemmas.Grind.{flat_map-append}
use Rattle.std.proofs.lemmas.Fmt.{length-decimal-le}
use Rattle.jul_base.specs.declared.graphs.RawGraph.{RawGraph}
use Rattle.jul_base.specs.declared.limits.TheConstants.{MAX_BYTES}
use Rattle.jul_base.specs.Graph.{vertices, places, IsLawful}
use Rattle.jul_text.specs.Lines.{line_of}
use Rattle.jul_text.proofs.LineLaws.{is_token, is_token-decimal}
use Rattle.jul_adj.specs.Roles.{plain_word, weighted_word}
use Rattle.jul_adj.specs.Texts.{header_word, size_lines, number_lines, graph_tokens, graph_text}

-- numbers of 32 bits
abbrev pub AreSmall : List ℕ → Type 0
AreSmall xs = All (λ x. x < 2 ^ 32) xs

-- each number has 32 bits
pub small_offsets : (g : RawGraph) → IsLawful g → AreSmall g.offsets
small_offsets g lawful k d lt = omega (arith, lawful.within k d lt, lawful.few_places)

pub small_targets : (g : RawGraph) → IsLawful g → AreSmall g.targets
small_targets g lawful k d lt = omega (arith, lawful.targets k d lt, lawful.few_vertices)

pub small_weights : (g : RawGraph) → IsLawful g → AreSmall g.weights
small_weights g lawful k d lt = omega (arith, lawful.light k d lt)

-- ---- the tokens of the text are tokens

all_cons : (t : List ℕ) (ts : List (List ℕ)) → is_token t ≡ true → list_all is_token ts ≡ true → list_all is_token (t ∷ ts) ≡ true
all_cons t ts first rest = ap (λ b. b && list_all is_token ts) first ∙ rest

all_append : (ts us : List (List ℕ)) → list_all is_token ts ≡ true → list_all is_token us ≡ true → list_all is_token (ts ++ us) ≡ true
all_append ts us first rest = list_all-append is_token ts us ∙ ap (λ b. b && list_all is_token us) first ∙ rest

decimals_are_tokens : (xs : List ℕ) → AreSmall xs → list_all is_token (map decimal xs) ≡ true
decimals_are_tokens [] small = refl
decimals_are_tokens (x ∷ xs) small =
    all_cons (decimal x) (map decimal xs) (is_token-decimal x (omega (arith, small 0 0 (omega arith)))) (decimals_are_tokens xs (λ k d lt. small (suc k) d (omega arith)))

header_is_token : (b : Bool) → is_token (cond b weighted_word plain_word) ≡ true
header_is_token true = refl
header_is_token false = refl

pub are_tokens : (g : RawGraph) → IsLawful g → list_all is_token (graph_tokens g) ≡ true
are_tokens g lawful =
    let numbers : List (List ℕ) = map decimal g.offsets ++ (map decimal g.targets ++ map decimal g.weights) in
    let rest : list_all is_token numbers ≡ true =
    all_append (map decimal g.offsets) (map decimal g.targets ++ map decimal g.weights) (decimals_are_tokens g.offsets (small_offsets g lawful))
    (all_append (map decimal g.targets) (map decimal g.weights) (decimals_are_tokens g.targets (small_targets g lawful)) (decimals_are_tokens g.weights (small_weights g lawful))) in
    all_cons (header_word g) (decimal (vertices g) ∷ decimal (places g) ∷ numbers) (header_is_token g.weighted)
    (all_cons (decimal (vertices g)) (decimal (places g) ∷ numbers) (is_token-decimal (vertices g) (omega (arith, lawful.few_vertices)))
    (all_cons (decimal (places g)) numbers (is_token-decimal (places g) (omega (arith, lawful.few_places))) rest))

-- ---- the parts of the text and their lengths

header_short : (b : Bool) → length (line_of (cond b weighted_word plain_word)) ≤ 23
header_short true = omega arith
header_short false = omega arith

-- each line of a number has at most eleven bytes
line_short : (x : ℕ) → x < 2 ^ 32 → length (line_of (decimal x)) ≤ 11
line_short x small = omega (arith, length-append (decimal x) (10 ∷ []), length-decimal-le 10 x (omega arith) (omega arith) (omega arith))

lines_short : (xs : List ℕ) → AreSmall xs → length (number_lines xs) ≤ 11 * length xs
lines_short [] small = omega arith
lines_short (x ∷ xs) small =
    omega (arith, length-append (line_of (decimal x)) (number_lines xs), line_short x (small 0 0 (omega arith)), lines_short xs (λ k d lt. small (suc k) d (omega arith)))

-- the text, a part after another
pub graph_text-parts : (g : RawGraph) → graph_text g ≡ size_lines g ++ number_lines g.offsets ++ number_lines g.targets ++ number_lines g.weights
unfolding graph_text
graph_text-parts g = simp (flat_map-append line_of, append_assoc)

-- ---- the lines of numbers, one after another

-- the lines of numbers, one more
pub number_lines-more : (xs : List ℕ) (i : ℕ) → i < length xs → number_lines (take i xs) ++ line_of (decimal (get_or xs i 0)) ≡ number_lines (take (i + 1) xs)
number_lines-more xs i lt =
    let line : List ℕ = line_of (decimal (get_or xs i 0)) in
    sym (ap number_lines (take_more xs i 0 lt)
    ∙ ap (flat_map line_of) (map_push decimal (take i xs) (get_or xs i 0))
    ∙ flat_map-append line_of (map decimal (take i xs)) (decimal (get_or xs i 0) ∷ [])
    ∙ ap (λ (l : List ℕ). number_lines (take i xs) ++ l) (append-nil line))

-- one more line, and those behind it
pub number_lines-rest : (xs : List ℕ) (i : ℕ) → i < length xs →
    number_lines (take i xs) ++ line_of (decimal (get_or xs i 0)) ++ number_lines (drop (i + 1) xs) ≡ number_lines xs
number_lines-rest xs i lt =
    let split : take (i + 1) xs ++ drop (i + 1) xs ≡ xs = take-append-drop (i + 1) xs in
    ap (λ (t : List ℕ). t ++ number_lines (drop (i + 1) xs)) (number_lines-more xs i lt)
    ∙ sym (flat_map-append line_of (map decimal (take (i + 1) xs)) (map decimal (drop (i + 1) xs)))
    ∙ ap (flat_map line_of) (sym (map-append decimal (take (i + 1) xs) (drop (i + 1) xs)) ∙ ap (map decimal) split)

-- ---- the length of the text

-- a graph has at most one weight for each place
few_weights : (b : Bool) (m count : ℕ) → count ≡ cond b m 0 → count ≤ m
few_weights true m count e = omega arith
few_weights false m count e = omega arith

-- the text is short enough for a file
pub graph_text-short : (g : RawGraph) → IsLawful g → length (graph_text g) ≤ MAX_BYTES
graph_text-short g lawful =
    let header : List ℕ = line_of (header_word g) in
    let first : List ℕ = line_of (decimal (vertices g)) in
    let second : List ℕ = line_of (decimal (places g)) in
    let total : length (graph_text g) ≡ length header + length first + length second + length (number_lines g.offsets) + length (number_lines g.targets) + length (number_lines g.weights) =
    ap length (graph_text-parts g)
    ∙ omega (
      arith,
      length-append header first,
      length-append (header ++ first) second,
      length-append (size_lines g) (number_lines g.offsets),
      length-append (size_lines g ++ number_lines g.offsets) (number_lines g.targets),
      length-append (size_lines g ++ number_lines g.offsets ++ number_lines g.targets) (number_lines g.weights),
    ) in
    omega (
      arith,
      total,
      header_short g.weighted,
      line_short (vertices g) (omega (arith, lawful.few_vertices)),
      line_short (places g) (omega (arith, lawful.few_places)),
      lines_short g.offsets (small_offsets g lawful),
      lines_short g.targets (small_targets g lawful),
      lines_short g.weights (small_weights g lawful),
      lawful.few_vertices,
      lawful.few_places,
      few_weights g.weighted (places g) (length g.weights) lawful.weights,
    )
