-- The rows that `clap` holds, by what is given.
use Rattle.std.proofs.Common.{◌≡◌, ◌∙◌, ◌||◌, ℕ, Bool, true, false, List, [], ◌∷◌, ◌++◌, Option, Some, None, refl, sym, ap, map, append-nil, true≢false, codes}
use Rattle.std.proofs.lemmas.List.{map-append}
use Rattle.std.specs.Option.{option_map_or}
use Rattle.std.specs.Str.{bytes_eq}
use Rattle.clap.proofs.WalkLemmas.{list_any-map}
use Rattle.clap.specs.Words.{Row, Rule, Text}
use Rattle.clap.specs.Walk.{Held, at_row, has_row, more_values, reacted, settled, settled_rows, used, with_values, without}
use Rattle.clap.specs.Faults.{settle_fault, use_fault}
use Rattle.clap.specs.declared.parser.matches.ValueSource.TheVariants.{CommandLine}
use Rattle.clap.specs.declared.builder.value_parser.Reading.TheVariants.{AsWritten}
use Rattle.jul_query.specs.Command.{is_none}
use Rattle.jul_query.specs.Splitting.{Given, is_given}
use Rattle.jul_query.proofs.WalkRules.{Known, flag_built, rules, text_rule}

abbrev pub row_for : Text × Text → Row
row_for p = record { id = p.0; values = p.1 ∷ []; count = None; source = Some CommandLine; reading = AsWritten }

abbrev pub rows_for : Given → List Row
rows_for = map row_for

pub has_row_for : (id : Text) (g : Given) → has_row id (rows_for g) ≡ is_given id g
has_row_for id g = sym (list_any-map (λ (r : Row). bytes_eq r.id id) row_for g)

neither : (a b : Bool) → (a || b) ≡ false → (a ≡ false) × (b ≡ false)
neither true b e = absurd (true≢false e)
neither false b e = (refl, e)

-- where no row has the id, the new one stands last
pub at_new : (id : Text) (change : Row → List Row) (missing rows : List Row) → has_row id rows ≡ false → at_row id change missing rows ≡ rows ++ missing
at_new id change missing [] e = refl
at_new id change missing (r ∷ rs) e =
    let p = neither (bytes_eq r.id id) (has_row id rs) e in
    let other : bytes_eq r.id id ≡ false = p.0 in
    rw other (ap (λ (xs : List Row). r ∷ xs) (at_new id change missing rs p.1))

new_row : (id t : Text) (rows : List Row) → has_row id rows ≡ false → with_values id AsWritten CommandLine (t ∷ []) (without id rows) ≡ rows ++ row_for (id, t) ∷ []
new_row id t rows e =
    let gone : without id rows ≡ rows = at_new id (λ _. []) [] rows e ∙ append-nil rows in
    ap (with_values id AsWritten CommandLine (t ∷ [])) gone ∙ at_new id (more_values CommandLine (t ∷ [])) _ rows e

given_row : (id t : Text) (g : Given) → is_given id g ≡ false → with_values id AsWritten CommandLine (t ∷ []) (without id (rows_for g)) ≡ rows_for (g ++ (id, t) ∷ [])
given_row id t g e = new_row id t (rows_for g) (has_row_for id g ∙ e) ∙ sym (map-append row_for g ((id, t) ∷ []))

-- ---- one use

module _ (id : Text) (long : Option Text) (index : Option ℕ) (required : Bool) (t : Text) (g : Given) where
  abbrev rule : Rule
  rule = text_rule id long index required

  pub text_used : is_given id g ≡ false → used rule (t ∷ []) (rows_for g) ≡ rows_for (g ++ (id, t) ∷ [])
  text_used e = given_row id t g e

  pub text_fine : is_given id g ≡ false → use_fault false rule (t ∷ []) (rows_for g) ≡ []
  text_fine e = let none : has_row id (rows_for g) ≡ false = has_row_for id g ∙ e in rw none refl

  pub text_again : is_given id g ≡ true → is_none (use_fault false rule (t ∷ []) (rows_for g)) ≡ false
  text_again e = let some : has_row id (rows_for g) ≡ true = has_row_for id g ∙ e in rw some refl

  pub text_missing : is_none (use_fault false rule [] (rows_for g)) ≡ false
  text_missing = refl

module _ (g : Given) where
  pub flag_used : is_given (codes "bare") g ≡ false → used flag_built [] (rows_for g) ≡ rows_for (g ++ (codes "bare", codes "true") ∷ [])
  flag_used e = given_row (codes "bare") (codes "true") g e

  pub flag_fine : is_given (codes "bare") g ≡ false → use_fault false flag_built [] (rows_for g) ≡ []
  flag_fine e = let none : has_row (codes "bare") (rows_for g) ≡ false = has_row_for (codes "bare") g ∙ e in rw none refl

  pub flag_again : is_given (codes "bare") g ≡ true → is_none (use_fault false flag_built [] (rows_for g)) ≡ false
  flag_again e = let some : has_row (codes "bare") (rows_for g) ≡ true = has_row_for (codes "bare") g ∙ e in rw some refl

-- ---- what is held

-- with what is pending it holds what is given, and no fault is seen yet
pub record Good (h : Held) (g : Given) : Type 0 where
  pub rows : settled_rows rules h.pending h.rows ≡ rows_for g
  pub fine : settle_fault rules false h ≡ []
  pub skip : h.skip ≡ 0

abbrev pub held_for : Given → Held
held_for g = record { rows = rows_for g; pending = None; skip = 0 }

-- a text, or none yet, is pending
abbrev pub pend_for : Text → List Text → Given → Held
pend_for id texts g = record { rows = rows_for g; pending = Some (id, texts); skip = 0 }

pub good_held : (g : Given) → Good (held_for g) g
good_held g = record { rows = refl; fine = refl; skip = refl }

pub settled_is : (h : Held) (g : Given) → Good h g → settled rules h ≡ held_for g
settled_is h g good = λ i. record { rows = good.rows i; pending = None; skip = good.skip i }

pub good_pend : (id t : Text) (g : Given) → Known id → is_given id g ≡ false → Good (pend_for id (t ∷ []) g) (g ++ (id, t) ∷ [])
good_pend id t g k e = record {
  rows = ap (λ (o : Option Rule). Rattle.clap.specs.Walk.used_by_id o (t ∷ []) (rows_for g)) k.at ∙ text_used id k.long k.index k.required t g e;
  fine = ap (λ (o : Option Rule). option_map_or (λ a. use_fault false a (t ∷ []) (rows_for g)) o []) k.at ∙ text_fine id k.long k.index k.required t g e;
  skip = refl;
}

pub bad_pend : (id t : Text) (g : Given) → Known id → is_given id g ≡ true → is_none (settle_fault rules false (pend_for id (t ∷ []) g)) ≡ false
bad_pend id t g k e =
    ap (λ (o : Option Rule). is_none (option_map_or (λ a. use_fault false a (t ∷ []) (rows_for g)) o [])) k.at ∙ text_again id k.long k.index k.required t g e

pub bad_wait : (id : Text) (g : Given) → Known id → is_none (settle_fault rules false (pend_for id [] g)) ≡ false
bad_wait id g k =
    ap (λ (o : Option Rule). is_none (option_map_or (λ a. use_fault false a [] (rows_for g)) o [])) k.at ∙ text_missing id k.long k.index k.required [] g

-- one more use of a text, or of the flag
pub good_reacted : (name t : Text) (h : Held) (g : Given) → Good h g → is_given name g ≡ false
    → reacted rules (text_rule name (Some name) None false) (t ∷ []) h ≡ held_for (g ++ (name, t) ∷ [])
good_reacted name t h g good e =
    let rows = ap (used (text_rule name (Some name) None false) (t ∷ [])) good.rows ∙ text_used name (Some name) None false t g e in
    λ i. record { rows = rows i; pending = None; skip = good.skip i }

pub good_flagged : (h : Held) (g : Given) → Good h g → is_given (codes "bare") g ≡ false
    → reacted rules flag_built [] h ≡ held_for (g ++ (codes "bare", codes "true") ∷ [])
good_flagged h g good e =
    let rows = ap (used flag_built []) good.rows ∙ flag_used g e in
    λ i. record { rows = rows i; pending = None; skip = good.skip i }
