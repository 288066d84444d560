-- The text of a result as tokens, each with a white byte behind it.
use Rattle.std.proofs.Common.{◌≡◌, ℕ, ◌*◌, ◌^◌, ◌<◌, ◌≤◌, Bool, true, ◌&&◌, eqb, List, [], ◌∷◌, ◌++◌, map, length, get_or, decimal, refl, sym, ◌∙◌, ap, arith, inl, inr}
use Rattle.std.specs.Prelude.{codes}
use Rattle.std.specs.List.{All, flat_map, list_all}
use Rattle.std.proofs.lemmas.Bool.{cases_Bool, cases_lt, cond-true, cond-false}
use Rattle.std.proofs.lemmas.List.{append_assoc, append-nil, length-append, length-map, map-append, get_or_past}
use Rattle.std.proofs.lemmas.List.Folds.{list_all-append}
use Rattle.std.proofs.lemmas.Grind.{flat_map-append}
use Rattle.std.proofs.lemmas.Fmt.{length-decimal-le}
use Rattle.jul_base.specs.declared.limits.TheConstants.{NONE, MAX_N, MAX_M, MAX_SOURCES, MAX_BYTES}
use Rattle.jul_base.specs.Numbers.{below}
use Rattle.jul_text.specs.Lines.{line_of}
use Rattle.jul_text.specs.Tokens.{tokens}
use Rattle.jul_text.proofs.LineLaws.{texts, is_token, is_token-decimal, Parted, is_parted, part_text, texts-parts}
use Rattle.jul_witness.specs.declared.forms.Form.{Form}
use Rattle.jul_witness.specs.declared.forms.Form.TheVariants as forms
use Rattle.jul_witness.specs.Forms.{word_of}
use Rattle.jul_witness.specs.Texts.{value_text, values_line, vertex_line, vertex_lines, head_lines, sources_line, result_text}
use Rattle.jul_witness.proofs.TextLaws.{length-below}

-- numbers of 64 bits
abbrev pub AreWords : List ℕ → Type 0
AreWords [] = Unit {0}
AreWords (x ∷ xs) = (x < 2 ^ 64) × AreWords xs

-- columns of such numbers
abbrev pub AreColumns : List (List ℕ) → Type 0
AreColumns [] = Unit {0}
AreColumns (c ∷ cs) = All (λ x. x < 2 ^ 64) c × AreColumns cs

-- the numbers of a vertex
abbrev pub row_of : List (List ℕ) → ℕ → List ℕ
row_of columns v = map (λ column. get_or column v 0) columns

pub number_fits : (column : List ℕ) (v : ℕ) → All (λ x. x < 2 ^ 64) column → get_or column v 0 < 2 ^ 64
number_fits column v fit =
    elim (cases_lt v (length column)) [
      | inl lt ↦ fit v 0 lt
      | inr le ↦ let none : get_or column v 0 ≡ 0 = get_or_past column v 0 le in omega arith
    ]

pub row_fits : (columns : List (List ℕ)) (v : ℕ) → AreColumns columns → AreWords (row_of columns v)
row_fits [] v fit = tt
row_fits (c ∷ cs) v fit = (number_fits c v fit.0, row_fits cs v fit.1)

-- ---- the tokens of a line

abbrev part : List ℕ → ℕ → Parted
part token white = record { token = token; white = white }

pub line_parts : List ℕ → List Parted
line_parts [] = []
line_parts (x ∷ []) = part (value_text x) 10 ∷ []
line_parts (x ∷ y ∷ ys) = part (value_text x) 32 ∷ line_parts (y ∷ ys)

text-line_parts : (x : ℕ) (xs : List ℕ) → flat_map part_text (line_parts (x ∷ xs)) ≡ values_line (x ∷ xs)
unfolding line_parts
text-line_parts x [] = append-nil (value_text x ++ 10 ∷ [])
text-line_parts x (y ∷ ys) = ap (λ (t : List ℕ). (value_text x ++ 32 ∷ []) ++ t) (text-line_parts y ys)

tokens-line_parts : (xs : List ℕ) → map (λ (p : Parted). p.token) (line_parts xs) ≡ map value_text xs
unfolding line_parts
tokens-line_parts [] = refl
tokens-line_parts (x ∷ []) = refl
tokens-line_parts (x ∷ y ∷ ys) = ap (λ (ts : List (List ℕ)). value_text x ∷ ts) (tokens-line_parts (y ∷ ys))

value_is_token : (x : ℕ) → x < 2 ^ 64 → is_token (value_text x) ≡ true
value_is_token x small =
    elim (cases_Bool (eqb x NONE)) [
      | inl none ↦ ap is_token (cond-true (eqb x NONE) (codes "-") (decimal x) none)
      | inr some ↦ ap is_token (cond-false (eqb x NONE) (codes "-") (decimal x) some) ∙ is_token-decimal x small
    ]

both : (a b : Bool) → a ≡ true → b ≡ true → (a && b) ≡ true
both a b p q = ap (λ x. x && b) p ∙ q

parted-line_parts : (xs : List ℕ) → AreWords xs → list_all is_parted (line_parts xs) ≡ true
unfolding line_parts
parted-line_parts [] fit = refl
parted-line_parts (x ∷ []) fit = both (is_parted (part (value_text x) 10)) true (both (is_token (value_text x)) true (value_is_token x fit.0) refl) refl
parted-line_parts (x ∷ y ∷ ys) fit =
    both (is_parted (part (value_text x) 32)) (list_all is_parted (line_parts (y ∷ ys))) (both (is_token (value_text x)) true (value_is_token x fit.0) refl) (parted-line_parts (y ∷ ys) fit.1)

-- ---- the tokens of some vertices

vertex_parts : List (List ℕ) → List ℕ → List Parted
vertex_parts columns vs = flat_map (λ v. line_parts (row_of columns v)) vs

text-vertex_parts : (c : List ℕ) (cs : List (List ℕ)) (vs : List ℕ) → flat_map part_text (vertex_parts (c ∷ cs) vs) ≡ flat_map (vertex_line (c ∷ cs)) vs
unfolding vertex_parts
text-vertex_parts c cs [] = refl
text-vertex_parts c cs (v ∷ vs) =
    flat_map-append part_text (line_parts (row_of (c ∷ cs) v)) (vertex_parts (c ∷ cs) vs)
    ∙ ap (λ (t : List ℕ). t ++ flat_map part_text (vertex_parts (c ∷ cs) vs)) (text-line_parts (get_or c v 0) (row_of cs v))
    ∙ ap (λ (t : List ℕ). vertex_line (c ∷ cs) v ++ t) (text-vertex_parts c cs vs)

-- the tokens of the lines of some vertices
abbrev pub entries : List (List ℕ) → List ℕ → List (List ℕ)
entries columns vs = flat_map (λ v. map value_text (row_of columns v)) vs

tokens-vertex_parts : (columns : List (List ℕ)) (vs : List ℕ) → map (λ (p : Parted). p.token) (vertex_parts columns vs) ≡ entries columns vs
unfolding vertex_parts
tokens-vertex_parts columns [] = refl
tokens-vertex_parts columns (v ∷ vs) =
    map-append (λ (p : Parted). p.token) (line_parts (row_of columns v)) (vertex_parts columns vs)
    ∙ ap (λ (ts : List (List ℕ)). ts ++ map (λ (p : Parted). p.token) (vertex_parts columns vs)) (tokens-line_parts (row_of columns v))
    ∙ ap (λ (ts : List (List ℕ)). map value_text (row_of columns v) ++ ts) (tokens-vertex_parts columns vs)

parted-vertex_parts : (columns : List (List ℕ)) (vs : List ℕ) → AreColumns columns → list_all is_parted (vertex_parts columns vs) ≡ true
unfolding vertex_parts
parted-vertex_parts columns [] fit = refl
parted-vertex_parts columns (v ∷ vs) fit =
    list_all-append is_parted (line_parts (row_of columns v)) (vertex_parts columns vs)
    ∙ both (list_all is_parted (line_parts (row_of columns v))) (list_all is_parted (vertex_parts columns vs))
    (parted-line_parts (row_of columns v) (row_fits columns v fit)) (parted-vertex_parts columns vs fit)

-- ---- the tokens of the text

word_is_token : (form : Form) → is_token (word_of form) ≡ true
word_is_token forms.Cores = refl
word_is_token forms.Distances = refl
word_is_token forms.Cover = refl

text_parts : Form → ℕ → ℕ → List Parted → List (List ℕ) → List Parted
text_parts form n m named columns = part (word_of form) 10 ∷ (line_parts (n ∷ m ∷ []) ++ (named ++ vertex_parts columns (below n)))

-- parts between the first two lines and those of the vertices
pub record AreParts (text : List ℕ) (tokens : List (List ℕ)) (parts : List Parted) : Type 0 where
  pub text_is : flat_map part_text parts ≡ text
  pub tokens_are : map (λ (p : Parted). p.token) parts ≡ tokens
  pub parted : list_all is_parted parts ≡ true

pub no_parts : AreParts [] [] []
no_parts = record { text_is = refl; tokens_are = refl; parted = refl }

-- those of the sources
pub source_parts : (x : ℕ) (xs : List ℕ) → AreWords (x ∷ xs) → AreParts (values_line (x ∷ xs)) (map value_text (x ∷ xs)) (line_parts (x ∷ xs))
source_parts x xs fit = record { text_is = text-line_parts x xs; tokens_are = tokens-line_parts (x ∷ xs); parted = parted-line_parts (x ∷ xs) fit }

module _ (form : Form) (n m : ℕ) (few : n ≤ MAX_N) (fewer : m ≤ MAX_M) (c : List ℕ) (cs : List (List ℕ)) (fit : AreColumns (c ∷ cs))
    (named : List ℕ) (tokens_named : List (List ℕ)) (parts : List Parted) (are : AreParts named tokens_named parts) where
  text-text_parts : flat_map part_text (text_parts form n m parts (c ∷ cs)) ≡ result_text form n m named (c ∷ cs)
  unfolding text_parts
  text-text_parts =
      ap (λ (t : List ℕ). line_of (word_of form) ++ t)
      (flat_map-append part_text (line_parts (n ∷ m ∷ [])) (parts ++ vertex_parts (c ∷ cs) (below n))
      ∙ ap (λ (t : List ℕ). t ++ flat_map part_text (parts ++ vertex_parts (c ∷ cs) (below n))) (text-line_parts n (m ∷ []))
      ∙ ap (λ (t : List ℕ). values_line (n ∷ m ∷ []) ++ t)
      (flat_map-append part_text parts (vertex_parts (c ∷ cs) (below n))
      ∙ ap (λ (t : List ℕ). t ++ flat_map part_text (vertex_parts (c ∷ cs) (below n))) are.text_is
      ∙ ap (λ (t : List ℕ). named ++ t) (text-vertex_parts c cs (below n))))
      ∙ sym (append_assoc (line_of (word_of form)) (values_line (n ∷ m ∷ [])) (named ++ vertex_lines (c ∷ cs) n))

  parted-text_parts : list_all is_parted (text_parts form n m parts (c ∷ cs)) ≡ true
  unfolding text_parts
  parted-text_parts =
      both (is_parted (part (word_of form) 10)) (list_all is_parted (line_parts (n ∷ m ∷ []) ++ (parts ++ vertex_parts (c ∷ cs) (below n))))
      (both (is_token (word_of form)) true (word_is_token form) refl)
      (list_all-append is_parted (line_parts (n ∷ m ∷ [])) (parts ++ vertex_parts (c ∷ cs) (below n))
      ∙ both (list_all is_parted (line_parts (n ∷ m ∷ []))) (list_all is_parted (parts ++ vertex_parts (c ∷ cs) (below n)))
      (parted-line_parts (n ∷ m ∷ []) (omega arith, (omega arith, tt)))
      (list_all-append is_parted parts (vertex_parts (c ∷ cs) (below n))
      ∙ both (list_all is_parted parts) (list_all is_parted (vertex_parts (c ∷ cs) (below n))) are.parted (parted-vertex_parts (c ∷ cs) (below n) fit)))

  -- the text is read as the word, the sizes, what is named, and the numbers of each vertex
  pub texts-result_text : texts (tokens (result_text form n m named (c ∷ cs)))
      ≡ word_of form ∷ value_text n ∷ value_text m ∷ (tokens_named ++ entries (c ∷ cs) (below n))
  unfolding text_parts
  texts-result_text =
      ap (λ (bytes : List ℕ). texts (tokens bytes)) (sym text-text_parts)
      ∙ texts-parts 0 (text_parts form n m parts (c ∷ cs)) parted-text_parts
      ∙ ap (λ (ts : List (List ℕ)). word_of form ∷ ts)
      (map-append (λ (p : Parted). p.token) (line_parts (n ∷ m ∷ [])) (parts ++ vertex_parts (c ∷ cs) (below n))
      ∙ ap (λ (ts : List (List ℕ)). ts ++ map (λ (p : Parted). p.token) (parts ++ vertex_parts (c ∷ cs) (below n))) (tokens-line_parts (n ∷ m ∷ []))
      ∙ ap (λ (ts : List (List ℕ)). value_text n ∷ value_text m ∷ ts)
      (map-append (λ (p : Parted). p.token) parts (vertex_parts (c ∷ cs) (below n))
      ∙ ap (λ (ts : List (List ℕ)). ts ++ map (λ (p : Parted). p.token) (vertex_parts (c ∷ cs) (below n))) are.tokens_are
      ∙ ap (λ (ts : List (List ℕ)). tokens_named ++ ts) (tokens-vertex_parts (c ∷ cs) (below n))))

-- ---- its length

value_short : (x : ℕ) → x < 2 ^ 64 → length (value_text x) ≤ 20
value_short x small =
    elim (cases_Bool (eqb x NONE)) [
      | inl none ↦
          let dash : length (value_text x) ≡ 1 = ap length (cond-true (eqb x NONE) (codes "-") (decimal x) none) in
          omega arith
      | inr some ↦
          let digits : length (value_text x) ≡ length (decimal x) = ap length (cond-false (eqb x NONE) (codes "-") (decimal x) some) in
          omega (arith, digits, length-decimal-le 20 x (omega arith) (omega arith) (omega arith))
    ]

line_short : (x : ℕ) (xs : List ℕ) → AreWords (x ∷ xs) → length (values_line (x ∷ xs)) ≤ 21 * length (x ∷ xs)
line_short x [] fit = omega (arith, length-append (value_text x) (10 ∷ []), value_short x fit.0)
line_short x (y ∷ ys) fit =
    omega (arith, length-append (value_text x ++ 32 ∷ []) (values_line (y ∷ ys)), length-append (value_text x) (32 ∷ []), value_short x fit.0, line_short y ys fit.1)

lines_short : (piece : ℕ → List ℕ) (most : ℕ) (vs : List ℕ) → ((v : ℕ) → length (piece v) ≤ most) → length (flat_map piece vs) ≤ length vs * most
lines_short piece most [] each = omega arith
lines_short piece most (v ∷ vs) each =
    omega (arith, length-append (piece v) (flat_map piece vs), each v, lines_short piece most vs each)

word_short : (form : Form) → length (line_of (word_of form)) ≤ 11
word_short forms.Cores = omega arith
word_short forms.Distances = omega arith
word_short forms.Cover = omega arith

head_short : (form : Form) (n m : ℕ) → n ≤ MAX_N → m ≤ MAX_M → length (head_lines form n m) ≤ 53
head_short form n m few fewer =
    omega (
      arith,
      length-append (line_of (word_of form)) (values_line (n ∷ m ∷ [])),
      word_short form,
      line_short n (m ∷ []) (omega arith, (omega arith, tt)),
    )

-- at most 21 bytes a number
pub sources_short : (sources : List ℕ) → AreWords (length sources ∷ sources) → length sources ≤ MAX_SOURCES → length (sources_line sources) ≤ 21525
sources_short sources fit few = omega (arith, line_short (length sources) sources fit)

pub result_text-short : (form : Form) (n m : ℕ) (named : List ℕ) (c : List ℕ) (cs : List (List ℕ)) (most : ℕ) → n ≤ MAX_N → m ≤ MAX_M → length named ≤ 21525 →
    AreColumns (c ∷ cs) → 21 * length (c ∷ cs) ≤ most → most ≤ 63 → length (result_text form n m named (c ∷ cs)) < MAX_BYTES
result_text-short form n m named c cs most few fewer little fit width within =
    let each : (v : ℕ) → length (vertex_line (c ∷ cs) v) ≤ 63 = λ v.
    omega (arith, line_short (get_or c v 0) (row_of cs v) (row_fits (c ∷ cs) v fit), length-map cs (λ (column : List ℕ). get_or column v 0), width, within) in
    omega (
      arith,
      length-append (head_lines form n m) (named ++ vertex_lines (c ∷ cs) n),
      length-append named (vertex_lines (c ∷ cs) n),
      head_short form n m few fewer,
      little,
      lines_short (vertex_line (c ∷ cs)) 63 (below n) each,
      length-below n,
    )
