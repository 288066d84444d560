-- The plain reading is what the command makes of the words.
use Rattle.std.proofs.Common.{◌≡◌, ◌∙◌, ◌||◌, ◌&&◌, Bool, true, false, cond, not, List, [], ◌∷◌, ◌++◌, Option, Some, None, refl, sym, ap, ap₂, true≢false, codes}
use Rattle.std.specs.Option.{is_some, option_and_then, option_map, option_map_or}
use Rattle.std.specs.List.{find, fold}
use Rattle.std.specs.Prelude.{if◌then◌else◌, slice_get}
use Rattle.std.specs.Str.{bytes_eq}
use Rattle.clap.proofs.WalkLemmas.{find-map}
use Rattle.clap.specs.Words.{App, Kinds, Row, Text, fault_of, first_of, matches_of}
use Rattle.clap.specs.Kinds.{check_kinds, or_else}
use Rattle.clap.specs.Simple.{entered, names_of}
use Rattle.clap.specs.Takes as clap
use Rattle.clap.specs.Walk as walk
use Rattle.clap.specs.Walk.{Held, Walk, default_rows, finished, has_row, more_values, settled, walked, with_default}
use Rattle.clap.specs.Faults.{built_fault, check_fault, defaults_fault, entered_fault, level_fault, settle_fault, turn_fault, walk_fault}
use Rattle.clap.specs.declared.parser.matches.ValueSource.TheVariants.{DefaultValue}
use Rattle.clap.specs.declared.builder.value_parser.Reading.TheVariants.{AsWritten}
use Rattle.jul_query.specs.Command.{command_app, is_none, is_taken, rows_at, command_split, split_from}
use Rattle.jul_query.specs.Splitting.{Split, is_true}
use Rattle.jul_query.specs.Splitting as reading
use Rattle.jul_query.specs.Splitting.{Given, finish, is_given, places, split, read, split_given, text_given}
use Rattle.jul_query.proofs.WalkRules.{all_defaults, all_faults, built_is, first, flag_built, rules, wanted}
use Rattle.jul_query.proofs.WalkRows.{at_new, has_row_for, held_for, row_for, rows_for}
use Rattle.jul_query.proofs.WalkTurns.{shape, walk_at}
use Rattle.jul_query.proofs.WalkEnds.{accept, ends, ends_read, final}

-- ---- the command's faults and rows, by the end of its walk

abbrev end_of : Walk → List Text → Held
end_of w words = (fold (walked rules []) w words).held

ends_by_faults : (w : Walk) (words : List Text) → ends w words ≡ (if is_none (walk_fault shape [] w words) then final (end_of w words) else None)
unfolding ends walk_fault
ends_by_faults w [] = refl
ends_by_faults w (x ∷ xs) = go (turn_fault shape [] w x) (ends_by_faults (walked rules [] w x) xs)
  where
    go : (k : Kinds) → ends (walked rules [] w x) xs ≡ (if is_none (walk_fault shape [] (walked rules [] w x) xs) then final (end_of (walked rules [] w x) xs) else None)
        → (if is_none k then ends (walked rules [] w x) xs else None)
        ≡ (if is_none (or_else k (walk_fault shape [] (walked rules [] w x) xs)) then final (end_of (walked rules [] w x) xs) else None)
    go [] h = h
    go (k ∷ ks) h = refl

abbrev end_fault : Held → Kinds
end_fault h = or_else (settle_fault rules false h) (or_else (defaults_fault (settled rules h).rows rules) (check_fault shape (finished rules h) false))

fault_then : (k : Kinds) (h : Held) → (if is_none k then final h else None) ≡ (if is_none (or_else k (end_fault h)) then Some (finished rules h) else None)
fault_then [] h = refl
fault_then (k ∷ ks) h = refl

abbrev start : Walk
start = walk_at (held_for []) walk.idle first false

ends_is : (words : List Text) → ends start words ≡ (if is_none (or_else (walk_fault shape [] start words) (end_fault (end_of start words))) then Some (finished rules (end_of start words)) else None)
ends_is words = ends_by_faults start words ∙ fault_then (walk_fault shape [] start words) (end_of start words)

-- no subcommand is entered
abbrev leaf : App
leaf = record { top = shape; subs = [] }

none_entered : (stop : Option (Text × List Text)) → entered leaf stop ≡ None
none_entered None = refl
none_entered (Some p) = refl

none_failed : (stop : Option (Text × List Text)) → entered_fault leaf stop ≡ []
none_failed None = refl
none_failed (Some p) = refl

leaf_fault : (words : List Text) → built_fault leaf walk.nothing_held words ≡ or_else (walk_fault shape [] start words) (end_fault (end_of start words))
leaf_fault words =
    ap₂ (λ (o : Option (Text × List Row)) (k : Kinds). level_fault shape [] walk.nothing_held words (is_some o) k)
    (none_entered (walk.walk rules [] walk.nothing_held words).stopped) (none_failed (walk.walk rules [] walk.nothing_held words).stopped)

fault_is : (words : List Text) → fault_of command_app words ≡ or_else (walk_fault shape [] start words) (end_fault (end_of start words))
fault_is words = ap (λ (a : App). built_fault a walk.nothing_held words) built_is ∙ leaf_fault words

rows_are : (words : List Text) → matches_of command_app words ≡ finished rules (end_of start words)
rows_are words = ap (λ (a : App). walk.rows_after a.top.rules (names_of a) words) built_is

split_is : (words : List Text) → command_split words ≡ option_map split_from (ends start words)
unfolding command_split is_taken rows_at
split_is words =
    ap₂ (λ (k : Kinds) (rows : List Row). if is_none k then Some (split_from rows) else None) (fault_is words) (rows_are words)
    ∙ go (is_none (or_else (walk_fault shape [] start words) (end_fault (end_of start words)))) (finished rules (end_of start words))
    ∙ ap (option_map split_from) (sym (ends_is words))
  where
    go : (b : Bool) (rows : List Row) → (if b then Some (split_from rows) else None) ≡ option_map split_from (if b then Some rows else None)
    go true rows = refl
    go false rows = refl

-- ---- what is given, by the rows at the end

abbrev default_row : Row
default_row = record { id = codes "bare"; values = codes "false" ∷ []; count = None; source = Some DefaultValue; reading = AsWritten }

abbrev has_id : Text → Row → Bool
has_id id r = bytes_eq r.id id

find_rows : (id : Text) (g : Given) → find (has_id id) (rows_for g) ≡ option_map row_for (find (λ p. bytes_eq p.0 id) g)
find_rows id g = sym (find-map (has_id id) row_for g)

find_before : (id : Text) → bytes_eq (codes "bare") id ≡ false → (rows : List Row) → find (has_id id) (rows ++ default_row ∷ []) ≡ find (has_id id) rows
find_before id other [] = rw other refl
find_before id other (r ∷ rs) = ap (λ (o : Option Row). cond (has_id id r) (Some r) o) (find_before id other rs)

find_default : (rows : List Row) → has_row (codes "bare") rows ≡ false → find (has_id (codes "bare")) (rows ++ default_row ∷ []) ≡ Some default_row
find_default [] e = refl
find_default (r ∷ rs) e = go (has_id (codes "bare") r) (has_row (codes "bare") rs) e (find_default rs)
  where
    go : (a b : Bool) → (a || b) ≡ false → (b ≡ false → find (has_id (codes "bare")) (rs ++ default_row ∷ []) ≡ Some default_row)
        → cond a (Some r) (find (has_id (codes "bare")) (rs ++ default_row ∷ [])) ≡ Some default_row
    go true b e h = absurd (true≢false e)
    go false b e h = h e

some_any : (id : Text) (g : Given) → is_some (find (λ p. bytes_eq p.0 id) g) ≡ is_given id g
some_any id [] = refl
some_any id (p ∷ ps) = go (bytes_eq p.0 id) (some_any id ps)
  where
    go : (b : Bool) → is_some (find (λ (q : Text × Text). bytes_eq q.0 id) ps) ≡ is_given id ps
        → is_some (cond b (Some p) (find (λ (q : Text × Text). bytes_eq q.0 id) ps)) ≡ (b || is_given id ps)
    go true h = refl
    go false h = h

-- the rows with the default of the flag
abbrev all_rows : Given → List Row
all_rows g = with_default (rows_for g) flag_built

abbrev rows_by : Bool → Given → List Row
rows_by b g = cond b (rows_for g) (rows_for g ++ default_row ∷ [])

all_rows_by : (g : Given) → all_rows g ≡ rows_by (is_given (codes "bare") g) g
all_rows_by g = go (has_row (codes "bare") (rows_for g)) refl
  where
    more : has_row (codes "bare") (rows_for g) ≡ false → default_rows (codes "bare") AsWritten (codes "false" ∷ []) (rows_for g) ≡ rows_for g ++ default_row ∷ []
    more e = at_new (codes "bare") (more_values DefaultValue (codes "false" ∷ [])) (default_row ∷ []) (rows_for g) e

    go : (b : Bool) → has_row (codes "bare") (rows_for g) ≡ b → cond (has_row (codes "bare") (rows_for g)) (rows_for g) (default_rows (codes "bare") AsWritten (codes "false" ∷ []) (rows_for g))
        ≡ rows_by (is_given (codes "bare") g) g
    go true e = rw e (ap (λ (b : Bool). rows_by b g) (sym (sym (has_row_for (codes "bare") g) ∙ e)))
    go false e = rw e (more e ∙ ap (λ (b : Bool). rows_by b g) (sym (sym (has_row_for (codes "bare") g) ∙ e)))

find_all : (id : Text) → bytes_eq (codes "bare") id ≡ false → (b : Bool) (g : Given) → find (has_id id) (rows_by b g) ≡ option_map row_for (find (λ p. bytes_eq p.0 id) g)
find_all id other true g = find_rows id g
find_all id other false g = find_before id other (rows_for g) ∙ find_rows id g

text_by : (o : Option (Text × Text)) → option_and_then (λ (r : Row). slice_get r.values 0) (option_map row_for o) ≡ option_map (λ p. p.1) o
text_by None = refl
text_by (Some p) = refl

source_by : (o : Option (Text × Text)) → option_map_or (λ (r : Row). Rattle.clap.specs.Facts.explicit_source r.source) (option_map row_for o) false ≡ is_some o
source_by None = refl
source_by (Some p) = refl

module _ (g : Given) where
  module _ (id : Text) (other : bytes_eq (codes "bare") id ≡ false) where
    found : find (has_id id) (all_rows g) ≡ option_map row_for (find (λ p. bytes_eq p.0 id) g)
    found = ap (find (has_id id)) (all_rows_by g) ∙ find_all id other (is_given (codes "bare") g) g

    text_is : first_of id (all_rows g) ≡ text_given id g
    text_is = ap (option_and_then (λ (r : Row). slice_get r.values 0)) found ∙ text_by (find (λ p. bytes_eq p.0 id) g)

    given_is : clap.is_given id (all_rows g) ≡ is_given id g
    given_is = ap (λ (o : Option Row). option_map_or (λ (r : Row). Rattle.clap.specs.Facts.explicit_source r.source) o false) found ∙ source_by (find (λ p. bytes_eq p.0 id) g) ∙ some_any id g

  bare_is : is_true (first_of (codes "bare") (all_rows g)) ≡ is_true (text_given (codes "bare") g)
  bare_is = ap (λ (rows : List Row). is_true (first_of (codes "bare") rows)) (all_rows_by g) ∙ go (is_given (codes "bare") g) refl
    where
      none : (o : Option (Text × Text)) → is_some o ≡ false → false ≡ is_true (option_map (λ p. p.1) o)
      none None e = refl
      none (Some p) e = absurd (true≢false e)

      go : (b : Bool) → is_given (codes "bare") g ≡ b → is_true (first_of (codes "bare") (rows_by b g)) ≡ is_true (text_given (codes "bare") g)
      go true e = ap (λ (o : Option Row). is_true (option_and_then (λ (r : Row). slice_get r.values 0) o)) (find_rows (codes "bare") g) ∙ ap is_true (text_by (find (λ p. bytes_eq p.0 (codes "bare")) g))
      go false e =
          ap (λ (o : Option Row). is_true (option_and_then (λ (r : Row). slice_get r.values 0) o)) (find_default (rows_for g) (has_row_for (codes "bare") g ∙ e))
          ∙ none (find (λ p. bytes_eq p.0 (codes "bare")) g) (some_any (codes "bare") g ∙ e)

  split_all : split_from (all_rows g) ≡ split_given g
  split_all =
      let task = text_is (codes "task") refl in
      let graph = text_is (codes "graph") refl in
      let witness = text_is (codes "witness") refl in
      let source = text_is (codes "source") refl in
      let delta = text_is (codes "delta") refl in
      let opened = text_is (codes "open") refl in
      let workers = text_is (codes "workers") refl in
      let chunk = text_is (codes "chunk") refl in
      let n = text_is (codes "n") refl in
      let pairs = text_is (codes "pairs") refl in
      let seed = text_is (codes "seed") refl in
      let bare = bare_is in
      λ i. record {
        task = task i;
        graph = graph i;
        witness = witness i;
        source = source i;
        delta = delta i;
        open_buckets = opened i;
        workers = workers i;
        chunk = chunk i;
        n = n i;
        pairs = pairs i;
        seed = seed i;
        bare = bare i;
      }

  -- the first two places are filled, or the command finds that something is missing
  finished_by : (a b : Bool) → option_map split_from (if is_none (check_kinds false false (not a || (not b || false))) then Some (all_rows g) else None)
      ≡ (if a && b then Some (split_given g) else None)
  finished_by true true = ap Some split_all
  finished_by true false = refl
  finished_by false b = refl

  finish_is : option_map split_from (accept g) ≡ finish g
  finish_is =
      ap₂ (λ (k : Kinds) (rows : List Row). option_map split_from (if is_none (or_else k (check_fault shape rows false)) then Some rows else None)) (all_faults (rows_for g)) (all_defaults (rows_for g))
      ∙ ap (λ (k : Kinds). option_map split_from (if is_none k then Some (all_rows g) else None)) (wanted (all_rows g))
      ∙ ap₂ (λ (a b : Bool). option_map split_from (if is_none (check_kinds false false (not a || (not b || false))) then Some (all_rows g) else None))
      (given_is (codes "task") refl) (given_is (codes "graph") refl)
      ∙ finished_by (is_given (codes "task") g) (is_given (codes "graph") g)

by_given : (o : Option Given) → option_map split_from (option_and_then accept o) ≡ option_and_then finish o
by_given None = refl
by_given (Some g) = finish_is g

-- the command's split of any words is the plain one
pub split_plain : (words : List Text) → command_split words ≡ split words
unfolding split
split_plain words = split_is words ∙ ap (option_map split_from) (ends_read words) ∙ by_given (read reading.idle places [] words)
