-- The rules of the command as `clap` builds it.
use Rattle.std.proofs.Common.{◌≡◌, ◌∙◌, ◌||◌, ◌&&◌, ℕ, Bool, true, false, cond, not, List, [], ◌∷◌, ◌++◌, Option, Some, None, inl, inr, refl, sym, ap, ap₂, subst, codes, length, map}
use Rattle.std.specs.List.{fold}
use Rattle.std.specs.Str.{bytes_eq}
use Rattle.std.proofs.lemmas.Slice.Eq.{bytes_eq-Decides}
use Rattle.clap.specs.Words.{Kinds, Row, Rule, Shape, Text, new_rule, built}
use Rattle.clap.specs.Walk.{arg_by_id, arg_by_index, arg_by_long, arg_by_short, with_default, has_row}
use Rattle.clap.specs.Simple.{new_shape}
use Rattle.clap.specs.Faults.{check_fault, default_fault, defaults_fault}
use Rattle.clap.specs.Kinds.{check_kinds, or_else}
use Rattle.clap.specs.Takes as clap
use Rattle.clap.specs.declared.builder.action.ArgAction.TheVariants.{Set, SetTrue}
use Rattle.clap.specs.declared.builder.value_parser.ValueParser.TheVariants as vp
use Rattle.jul_query.specs.Command.{command_app}
use Rattle.jul_query.specs.Splitting.{is_option_name, is_flag_name, places}

-- what takes one text, by its place or by a long name
abbrev pub text_rule : Text → Option Text → Option ℕ → Bool → Rule
text_rule name long index required = record (new_rule name) {
  long = long;
  index = index;
  required = required;
  action = Some Set;
  parser = Some vp.String;
  range = Some (record { start_inclusive = 1; end_inclusive = 1 });
}

abbrev pub option_built : Text → Rule
option_built name = text_rule name (Some name) None false

abbrev pub place_built : Text → ℕ → Bool → Rule
place_built name index required = text_rule name None (Some index) required

abbrev pub flag_built : Rule
flag_built = record (new_rule (codes "bare")) {
  long = Some (codes "bare");
  action = Some SetTrue;
  parser = Some vp.Bool;
  range = Some (record { start_inclusive = 0; end_inclusive = 0 });
  defaults = codes "false" ∷ [];
  missing = codes "true" ∷ [];
}

unfoldable pub rules : List Rule
rules =
    place_built (codes "task") 1 true ∷ place_built (codes "graph") 2 true ∷ place_built (codes "witness") 3 false
    ∷ option_built (codes "source") ∷ option_built (codes "delta") ∷ option_built (codes "open") ∷ option_built (codes "workers")
    ∷ option_built (codes "chunk") ∷ option_built (codes "n") ∷ option_built (codes "pairs") ∷ option_built (codes "seed") ∷ flag_built ∷ []

abbrev pub shape_with : List Rule → Shape
shape_with c = record (new_shape (codes "julienne")) {
  rules = c;
  no_binary_name = true;
  disable_help_flag = true;
  disable_version_flag = true;
  disable_help_subcommand = true;
  is_built = true;
}

pub built_is : built command_app ≡ record { top = shape_with rules; subs = [] }
unfolding rules
built_is = refl

-- ---- by name

same_text : (a b : Text) → bytes_eq a b ≡ true → a ≡ b
same_text a b e = (bytes_eq-Decides a b).0 e

-- a fact of each option holds of the option of a name
by_name : (P : Text → Type 0) → P (codes "source") → P (codes "delta") → P (codes "open") → P (codes "workers") → P (codes "chunk")
    → P (codes "n") → P (codes "pairs") → P (codes "seed") → (name : Text) → is_option_name name ≡ true → P name
by_name P a b c d e f g h name is =
    go (bytes_eq (codes "source") name) (bytes_eq (codes "delta") name) (bytes_eq (codes "open") name) (bytes_eq (codes "workers") name)
    (bytes_eq (codes "chunk") name) (bytes_eq (codes "n") name) (bytes_eq (codes "pairs") name) (bytes_eq (codes "seed") name)
    refl refl refl refl refl refl refl refl is
  where
    by : (word : Text) → P word → bytes_eq word name ≡ true → P name
    by word p e = subst P (same_text word name e) p

    go : (s t u v w x y z : Bool) → bytes_eq (codes "source") name ≡ s → bytes_eq (codes "delta") name ≡ t → bytes_eq (codes "open") name ≡ u → bytes_eq (codes "workers") name ≡ v
        → bytes_eq (codes "chunk") name ≡ w → bytes_eq (codes "n") name ≡ x → bytes_eq (codes "pairs") name ≡ y → bytes_eq (codes "seed") name ≡ z
        → (s || (t || (u || (v || (w || (x || (y || z))))))) ≡ true → P name
    go true t u v w x y z es et eu ev ew ex ey ez one = by (codes "source") a es
    go false true u v w x y z es et eu ev ew ex ey ez one = by (codes "delta") b et
    go false false true v w x y z es et eu ev ew ex ey ez one = by (codes "open") c eu
    go false false false true w x y z es et eu ev ew ex ey ez one = by (codes "workers") d ev
    go false false false false true x y z es et eu ev ew ex ey ez one = by (codes "chunk") e ew
    go false false false false false true y z es et eu ev ew ex ey ez one = by (codes "n") f ex
    go false false false false false false true z es et eu ev ew ex ey ez one = by (codes "pairs") g ey
    go false false false false false false false z es et eu ev ew ex ey ez one = by (codes "seed") h (ez ∙ one)

pub long_option : (name : Text) → is_option_name name ≡ true → arg_by_long rules name ≡ Some (option_built name)
unfolding rules
long_option = by_name (λ name. arg_by_long rules name ≡ Some (option_built name)) refl refl refl refl refl refl refl refl

pub id_option : (name : Text) → is_option_name name ≡ true → arg_by_id rules name ≡ Some (option_built name)
unfolding rules
id_option = by_name (λ name. arg_by_id rules name ≡ Some (option_built name)) refl refl refl refl refl refl refl refl

long_bare : arg_by_long rules (codes "bare") ≡ Some flag_built
unfolding rules
long_bare = refl

pub long_flag : (name : Text) → is_flag_name name ≡ true → arg_by_long rules name ≡ Some flag_built
long_flag name e = subst (λ (t : Text). arg_by_long rules t ≡ Some flag_built) (same_text (codes "bare") name e) long_bare

neither : (a b : Bool) → (a || b) ≡ false → (a ≡ false) × (b ≡ false)
neither true b e = absurd (Rattle.std.proofs.Common.true≢false e)
neither false b e = (refl, e)

pub long_none : (name : Text) → is_option_name name ≡ false → is_flag_name name ≡ false → arg_by_long rules name ≡ None
unfolding rules
long_none name other e =
    let p0 = neither (bytes_eq (codes "source") name) _ other in
    let e0 : bytes_eq (codes "source") name ≡ false = p0.0 in
    let p1 = neither (bytes_eq (codes "delta") name) _ p0.1 in
    let e1 : bytes_eq (codes "delta") name ≡ false = p1.0 in
    let p2 = neither (bytes_eq (codes "open") name) _ p1.1 in
    let e2 : bytes_eq (codes "open") name ≡ false = p2.0 in
    let p3 = neither (bytes_eq (codes "workers") name) _ p2.1 in
    let e3 : bytes_eq (codes "workers") name ≡ false = p3.0 in
    let p4 = neither (bytes_eq (codes "chunk") name) _ p3.1 in
    let e4 : bytes_eq (codes "chunk") name ≡ false = p4.0 in
    let p5 = neither (bytes_eq (codes "n") name) _ p4.1 in
    let e5 : bytes_eq (codes "n") name ≡ false = p5.0 in
    let p6 = neither (bytes_eq (codes "pairs") name) _ p5.1 in
    let e6 : bytes_eq (codes "pairs") name ≡ false = p6.0 in
    let e7 : bytes_eq (codes "seed") name ≡ false = p6.1 in
    let last : bytes_eq (codes "bare") name ≡ false = e in
    rw (e0, e1, e2, e3, e4, e5, e6, e7, last) refl

pub short_none : (x : ℕ) → arg_by_short rules x ≡ None
unfolding rules
short_none x = refl

-- ---- after the words

same : {X : Type 0} (b : Bool) (x : X) → cond b x x ≡ x
same true x = refl
same false x = refl

or_true : (b : Bool) (k : Kinds) → cond (b || true) [] k ≡ []
or_true true k = refl
or_true false k = refl

-- a rule with no default changes nothing
no_default : (rows : List Row) (name : Text) (long : Option Text) (index : Option ℕ) (required : Bool) → with_default rows (text_rule name long index required) ≡ rows
no_default rows name long index required = same (has_row name rows) rows

no_default_fault : (rows : List Row) (name : Text) (long : Option Text) (index : Option ℕ) (required : Bool) → default_fault rows (text_rule name long index required) ≡ []
no_default_fault rows name long index required = or_true (has_row name rows) _

flag_default_fault : (rows : List Row) → default_fault rows flag_built ≡ []
flag_default_fault rows = go (has_row (codes "bare") rows)
  where
    go : (b : Bool) → cond {A = Kinds} (b || false) [] [] ≡ []
    go true = refl
    go false = refl

-- a rule of one text, by what it is made of
abbrev Made : Type 0
Made = Text × Option Text × Option ℕ × Bool

abbrev made : Made → Rule
made m = text_rule m.0 m.1 m.2 m.3

abbrev option_made : Text → Made
option_made name = (name, Some name, None, false)

abbrev texts_made : List Made
texts_made =
    (codes "task", None, Some 1, true) ∷ (codes "graph", None, Some 2, true) ∷ (codes "witness", None, Some 3, false)
    ∷ option_made (codes "source") ∷ option_made (codes "delta") ∷ option_made (codes "open") ∷ option_made (codes "workers")
    ∷ option_made (codes "chunk") ∷ option_made (codes "n") ∷ option_made (codes "pairs") ∷ option_made (codes "seed") ∷ []

rules_made : map made texts_made ++ flag_built ∷ [] ≡ rules
unfolding rules
rules_made = refl

fold_made : (rows : List Row) (ms : List Made) → fold with_default rows (map made ms ++ flag_built ∷ []) ≡ with_default rows flag_built
fold_made rows [] = refl
fold_made rows (m ∷ ms) = ap (λ (r : List Row). fold with_default r (map made ms ++ flag_built ∷ [])) (no_default rows m.0 m.1 m.2 m.3) ∙ fold_made rows ms

faults_made : (rows : List Row) (ms : List Made) → defaults_fault rows (map made ms ++ flag_built ∷ []) ≡ []
unfolding defaults_fault
faults_made rows [] = rw (flag_default_fault rows) refl
faults_made rows (m ∷ ms) =
    ap₂ (λ (k : Kinds) (r : List Row). or_else k (defaults_fault r (map made ms ++ flag_built ∷ []))) (no_default_fault rows m.0 m.1 m.2 m.3) (no_default rows m.0 m.1 m.2 m.3)
    ∙ faults_made rows ms

pub all_defaults : (rows : List Row) → fold with_default rows rules ≡ with_default rows flag_built
all_defaults rows = ap (λ (rs : List Rule). fold with_default rows rs) (sym rules_made) ∙ fold_made rows texts_made

pub all_faults : (rows : List Row) → defaults_fault rows rules ≡ []
all_faults rows = ap (defaults_fault rows) (sym rules_made) ∙ faults_made rows texts_made

pub wanted : (rows : List Row) → check_fault (shape_with rules) rows false
    ≡ check_kinds false false (not (clap.is_given (codes "task") rows) || (not (clap.is_given (codes "graph") rows) || false))
unfolding rules
wanted rows = refl

-- ---- by place

-- how many places are filled
pub data Place : Type 0 where
  first : Place
  second : Place
  third : Place
  full : Place

abbrev pub position_of : Place → ℕ
position_of first = 1
position_of second = 2
position_of third = 3
position_of full = 4

abbrev pub free_of : Place → List Text
free_of first = places
free_of second = codes "graph" ∷ codes "witness" ∷ []
free_of third = codes "witness" ∷ []
free_of full = []

pub index_first : arg_by_index rules 1 ≡ Some (place_built (codes "task") 1 true)
unfolding rules
index_first = refl

pub index_second : arg_by_index rules 2 ≡ Some (place_built (codes "graph") 2 true)
unfolding rules
index_second = refl

pub index_third : arg_by_index rules 3 ≡ Some (place_built (codes "witness") 3 false)
unfolding rules
index_third = refl

pub index_full : arg_by_index rules 4 ≡ None
unfolding rules
index_full = refl

-- a name of something that takes one text
pub record Known (name : Text) : Type 0 where
  pub long : Option Text
  pub index : Option ℕ
  pub required : Bool
  pub at : arg_by_id rules name ≡ Some (text_rule name long index required)

pub known_task : Known (codes "task")
unfolding rules
known_task = record { long = None; index = Some 1; required = true; at = refl }

pub known_graph : Known (codes "graph")
unfolding rules
known_graph = record { long = None; index = Some 2; required = true; at = refl }

pub known_witness : Known (codes "witness")
unfolding rules
known_witness = record { long = None; index = Some 3; required = false; at = refl }

pub known_option : (name : Text) → is_option_name name ≡ true → Known name
known_option name e = record { long = Some name; index = None; required = false; at = id_option name e }
