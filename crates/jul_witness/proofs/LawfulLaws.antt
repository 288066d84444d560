-- What is read is lawful, whatever the tokens are.
use Rattle.std.proofs.Common.{◌≡◌, ◌≢◌, ℕ, ◌+◌, ◌-◌, ◌*◌, ◌<◌, ◌≤◌, Bool, true, false, cond, leb, List, length, get_or, Some, refl, sym, ◌∙◌, subst, ap, arith}
use Rattle.std.specs.List.{All}
use Rattle.std.specs.Option.{unwrap_or}
use Rattle.std.specs.Str.Parse.{digits_value}
use Rattle.std.proofs.lemmas.Bool.{leb-true}
use Rattle.std.proofs.lemmas.List.Elements.{All-from_get_or}
use Rattle.std.proofs.lemmas.List.FromFn.{length-map-range_with_len, get_or-map-range_with_len}
use Rattle.jul_base.specs.declared.limits.TheConstants.{NONE, MAX_N}
use Rattle.jul_text.specs.Tokens.{Word}
use Rattle.jul_text.specs.Scanning.{text_at}
use Rattle.jul_text.specs.Numerals.{is_numeral, is_negative}
use Rattle.jul_text.specs.declared.numerals.Numeral.TheVariants.{Value, Above, Negative, Bad}
use Rattle.jul_witness.specs.declared.forms.Form.{Form}
use Rattle.jul_witness.specs.declared.forms.Form.TheVariants as forms
use Rattle.jul_witness.specs.declared.forms.Heading.{Heading}
use Rattle.jul_witness.specs.declared.witnesses.Columns.{Columns}
use Rattle.jul_witness.specs.declared.witnesses.Columns.TheVariants as results
use Rattle.jul_witness.specs.Lawful.{AreLawfulCores, AreLawfulDistances, IsLawfulCover}
use Rattle.jul_witness.specs.Forms.{columns_of}
use Rattle.jul_witness.specs.Roles.{value_of, number_of, said, said_vertices, front}
use Rattle.jul_witness.specs.Reading.{entry_of, entry_at, column_of, columns_in, columns_said}

by_tests : (a b c : Bool) (x bound d : ℕ) → (b ≡ true → x ≤ bound) → d ≤ bound → unwrap_or (value_of (cond a (cond b (Value x) Above) (cond c Negative Bad))) d ≤ bound
by_tests true true c x bound d h le = h refl
by_tests true false c x bound d h le = le
by_tests false b true x bound d h le = le
by_tests false b false x bound d h le = le

-- a number that was read up to a bound is within it
number_within : (text : List ℕ) (bound : ℕ) → unwrap_or (number_of false bound text) 0 ≤ bound
number_within text bound =
    by_tests (is_numeral text) (leb (digits_value 10 text) bound) (is_negative text) (digits_value 10 text) bound 0 (λ e. leb-true (digits_value 10 text) bound e) (omega arith)

-- so is the one that a token says
pub said_within : (bound : ℕ) (ws : List Word) (j : ℕ) → said bound ws j ≤ bound
said_within bound ws j = number_within (text_at ws j) bound

pub number_of-within : (bound : ℕ) (text : List ℕ) (x : ℕ) → number_of false bound text ≡ Some x → x ≤ bound
number_of-within bound text x e =
    let value : unwrap_or (number_of false bound text) 0 ≡ x = ap (λ o. unwrap_or o 0) e in
    omega (arith, value, number_within text bound)

-- ---- columns

length-column : (heading : Heading) (ws : List Word) (n column : ℕ) → length (column_of heading ws n column) ≡ n
length-column heading ws n column = length-map-range_with_len (entry_at heading ws column) 0 n

core_numbers : (heading : Heading) (ws : List Word) (n column : ℕ) → heading.form ≡ forms.Cores → All (λ x. x ≢ NONE) (column_of heading ws n column)
core_numbers heading ws n column form =
    All-from_get_or (λ x. x ≢ NONE) (column_of heading ws n column) 0 (λ v lt e.
    let in_range : v < n = omega (arith, length-column heading ws n column) in
    let value : get_or (column_of heading ws n column) v 0 ≡ entry_at heading ws column v = get_or-map-range_with_len (entry_at heading ws column) 0 n v v 0 in_range (omega arith) in
    let place : ℕ = front heading ws + columns_of heading.form * v + column in
    let number : entry_at heading ws column v ≡ unwrap_or (number_of false (NONE - 1) (text_at ws place)) 0 =
    ap (λ (f : Form). unwrap_or (entry_of f (text_at ws place)) 0) form in
    let within : unwrap_or (number_of false (NONE - 1) (text_at ws place)) 0 ≤ NONE - 1 = number_within (text_at ws place) (NONE - 1) in
    absurd (omega (arith, e, value, number, within)))

-- the columns that were read of n vertices
module _ (heading : Heading) (ws : List Word) (n : ℕ) (is : said_vertices ws ≡ n) where
  few_vertices : n ≤ MAX_N
  few_vertices = omega (arith, is, said_within MAX_N ws 1)

  sizes : (xs : List ℕ) (column : ℕ) → xs ≡ column_of heading ws n column → length xs ≡ n
  sizes xs column e = ap length e ∙ length-column heading ws n column

  pub lawful_cores : (core level : List ℕ) → heading.form ≡ forms.Cores → core ≡ column_of heading ws n 0 → level ≡ column_of heading ws n 1 →
      AreLawfulCores (record { core = core; level = level })
  lawful_cores core level form a b = record {
    few = omega (arith, few_vertices, sizes core 0 a);
    level = omega (arith, sizes core 0 a, sizes level 1 b);
    cores = subst (All (λ x. x ≢ NONE)) (sym a) (core_numbers heading ws n 0 form);
    levels = subst (All (λ x. x ≢ NONE)) (sym b) (core_numbers heading ws n 1 form);
  }

  pub lawful_distances : (dist hops parent : List ℕ) → dist ≡ column_of heading ws n 0 → hops ≡ column_of heading ws n 1 → parent ≡ column_of heading ws n 2 →
      AreLawfulDistances (record { dist = dist; hops = hops; parent = parent })
  lawful_distances dist hops parent a b c = record {
    few = omega (arith, few_vertices, sizes dist 0 a);
    hops = omega (arith, sizes dist 0 a, sizes hops 1 b);
    parent = omega (arith, sizes dist 0 a, sizes parent 2 c);
  }

  pub lawful_cover : (round by : List ℕ) → round ≡ column_of heading ws n 0 → by ≡ column_of heading ws n 1 → IsLawfulCover (record { round = round; by = by })
  lawful_cover round by a b = record {
    few = omega (arith, few_vertices, sizes round 0 a);
    by = omega (arith, sizes round 0 a, sizes by 1 b);
  }

  -- they are the columns that are said
  pub cores_said : (core level : List ℕ) → heading.form ≡ forms.Cores → core ≡ column_of heading ws n 0 → level ≡ column_of heading ws n 1 →
      ◌≡◌ {A = Columns} (results.Cores (record { core = core; level = level })) (columns_said heading ws)
  cores_said core level form a b =
      let first : core ≡ column_of heading ws (said_vertices ws) 0 = a ∙ ap (λ (m : ℕ). column_of heading ws m 0) (sym is) in
      let second : level ≡ column_of heading ws (said_vertices ws) 1 = b ∙ ap (λ (m : ℕ). column_of heading ws m 1) (sym is) in
      let whole : ◌≡◌ {A = Columns} (results.Cores (record { core = core; level = level })) (columns_in forms.Cores heading ws) = cc in
      whole ∙ ap (λ (f : Form). columns_in f heading ws) (sym form)

  pub distances_said : (dist hops parent : List ℕ) → heading.form ≡ forms.Distances → dist ≡ column_of heading ws n 0 → hops ≡ column_of heading ws n 1 →
      parent ≡ column_of heading ws n 2 → ◌≡◌ {A = Columns} (results.Distances (record { dist = dist; hops = hops; parent = parent })) (columns_said heading ws)
  distances_said dist hops parent form a b c =
      let first : dist ≡ column_of heading ws (said_vertices ws) 0 = a ∙ ap (λ (m : ℕ). column_of heading ws m 0) (sym is) in
      let second : hops ≡ column_of heading ws (said_vertices ws) 1 = b ∙ ap (λ (m : ℕ). column_of heading ws m 1) (sym is) in
      let third : parent ≡ column_of heading ws (said_vertices ws) 2 = c ∙ ap (λ (m : ℕ). column_of heading ws m 2) (sym is) in
      let whole : ◌≡◌ {A = Columns} (results.Distances (record { dist = dist; hops = hops; parent = parent })) (columns_in forms.Distances heading ws) = cc in
      whole ∙ ap (λ (f : Form). columns_in f heading ws) (sym form)

  pub cover_said : (round by : List ℕ) → heading.form ≡ forms.Cover → round ≡ column_of heading ws n 0 → by ≡ column_of heading ws n 1 →
      ◌≡◌ {A = Columns} (results.Cover (record { round = round; by = by })) (columns_said heading ws)
  cover_said round by form a b =
      let first : round ≡ column_of heading ws (said_vertices ws) 0 = a ∙ ap (λ (m : ℕ). column_of heading ws m 0) (sym is) in
      let second : by ≡ column_of heading ws (said_vertices ws) 1 = b ∙ ap (λ (m : ℕ). column_of heading ws m 1) (sym is) in
      let whole : ◌≡◌ {A = Columns} (results.Cover (record { round = round; by = by })) (columns_in forms.Cover heading ws) = cc in
      whole ∙ ap (λ (f : Form). columns_in f heading ws) (sym form)
