-- What `clap` makes of the words, as the plain reading has it.
use Rattle.std.proofs.Common.{◌≡◌, ◌∙◌, ◌||◌, ◌&&◌, ℕ, Bool, true, false, cond, List, [], ◌∷◌, ◌++◌, Option, Some, None, refl, sym, ap, ap₂, true≢false, codes}
use Rattle.std.specs.Option.{option_and_then}
use Rattle.std.specs.Prelude.{if◌then◌else◌}
use Rattle.std.specs.Str.{bytes_eq}
use Rattle.std.proofs.lemmas.Slice.Eq.{bytes_eq-Decides}
use Rattle.clap.specs.Words.{Kinds, Row, Rule, Text}
use Rattle.clap.specs.Kinds.{or_else}
use Rattle.clap.specs.Walk as walk
use Rattle.clap.specs.Walk.{Held, Waiting, Walk, arg_by_index, finished, reacted, settled, settled_rows, to_positional, walked}
use Rattle.clap.specs.Faults.{check_fault, defaults_fault, settle_fault, step_fault, turn_fault, use_fault}
use Rattle.jul_query.specs.Command.{is_none}
use Rattle.jul_query.specs.Splitting as reading
use Rattle.jul_query.specs.Splitting.{Given, Go, Mode, add, is_flag_name, is_given, is_option_name, placed, read, step}
use Rattle.jul_query.proofs.WalkRules.{Known, Place, first, second, third, full, flag_built, free_of, index_first, index_second, index_third, index_full, known_graph, known_option, known_task, known_witness, option_built, place_built, position_of, rules, text_rule}
use Rattle.jul_query.proofs.WalkRows.{Good, bad_pend, bad_wait, flag_again, flag_fine, good_flagged, good_held, good_pend, good_reacted, held_for, pend_for, settled_is, text_again, text_fine}
use Rattle.jul_query.proofs.WalkTurns.{Class, attached, attached_flag, class_of, dashes, flagged, no_short, plain, shape, short, turn_attached, turn_attached_flag, turn_behind, turn_dashes, turn_flagged, turn_no_short, turn_plain, turn_short, turn_unknown, turn_waiting, unknown, waiting, walk_at, walked_attached, walked_behind, walked_dashes, walked_flagged, walked_no_short, walked_plain, walked_waiting}

-- ---- the end

-- the kinds of fault at the end, from what is settled
abbrev final_by : Kinds → Held → Option (List Row)
final_by k h =
    if is_none (or_else k (or_else (defaults_fault h.rows rules) (check_fault shape (Rattle.std.specs.List.fold walk.with_default h.rows rules) false)))
    then Some (Rattle.std.specs.List.fold walk.with_default h.rows rules) else None

-- the rows at the end, where nothing fails
abbrev pub final : Held → Option (List Row)
final h = final_by (settle_fault rules false h) (settled rules h)

abbrev pub accept : Given → Option (List Row)
accept g = final (held_for g)

final_good : (h : Held) (g : Given) → Good h g → final h ≡ accept g
final_good h g good = ap₂ final_by good.fine (settled_is h g good)

else_fails : (k l : Kinds) → is_none k ≡ false → is_none (or_else k l) ≡ false
else_fails [] l bad = absurd (true≢false bad)
else_fails (k ∷ ks) l bad = refl

final_bad : (h : Held) → is_none (settle_fault rules false h) ≡ false → final h ≡ None
final_bad h bad = ap (λ (b : Bool). if b then Some (finished rules h) else None) (else_fails (settle_fault rules false h) _ bad)

-- ---- the words

unfoldable pub ends : Walk → List Text → Option (List Row)
ends w [] = final w.held
ends w (word ∷ words) = if is_none (turn_fault shape [] w word) then ends (walked rules [] w word) words else None

ends_last : (w : Walk) → ends w [] ≡ final w.held
unfolding ends
ends_last w = refl

goes : (w next : Walk) (word : Text) (words : List Text) → turn_fault shape [] w word ≡ [] → walked rules [] w word ≡ next → ends w (word ∷ words) ≡ ends next words
unfolding ends
goes w next word words fine to = ap₂ (λ (k : Kinds) (v : Walk). if is_none k then ends v words else None) fine to

stops : (w : Walk) (word : Text) (words : List Text) → is_none (turn_fault shape [] w word) ≡ false → ends w (word ∷ words) ≡ None
unfolding ends
stops w word words bad = ap (λ (b : Bool). if b then ends (walked rules [] w word) words else None) bad

-- ---- a place

-- a place that is free
data Spot : Type 0 where
  one : Spot
  two : Spot
  three : Spot

abbrev place_of : Spot → Place
place_of one = first
place_of two = second
place_of three = third

abbrev next_of : Spot → Place
next_of one = second
next_of two = third
next_of three = full

abbrev name_of : Spot → Text
name_of one = codes "task"
name_of two = codes "graph"
name_of three = codes "witness"

abbrev wanted_of : Spot → Bool
wanted_of one = true
wanted_of two = true
wanted_of three = false

abbrev rule_of : Spot → Rule
rule_of s = place_built (name_of s) (position_of (place_of s)) (wanted_of s)

index_of : (s : Spot) → arg_by_index rules (position_of (place_of s)) ≡ Some (rule_of s)
index_of one = index_first
index_of two = index_second
index_of three = index_third

known_of : (s : Spot) → Known (name_of s)
known_of one = known_task
known_of two = known_graph
known_of three = known_witness

next_is : (s : Spot) → walk.next_position (rule_of s) (position_of (place_of s)) ≡ position_of (next_of s)
next_is one = refl
next_is two = refl
next_is three = refl

placed_is : (s : Spot) (word : Text) (g : Given) (go : List Text → Given → Option Given) → placed (free_of (place_of s)) word g go ≡ add (name_of s) word g (go (free_of (next_of s)))
placed_is one word g go = refl
placed_is two word g go = refl
placed_is three word g go = refl

never : {X : Type 0} (b : Bool) (x y : X) → cond (b && false) x y ≡ y
never true x y = refl
never false x y = refl

or_false : (b : Bool) → (b || false) ≡ b
or_false true = refl
or_false false = refl

module _ (h : Held) where
  spot_fault : (s : Spot) → step_fault shape (position_of (place_of s)) h walk.value ≡ settle_fault rules false h
  spot_fault s =
      ap (λ (o : Option Rule). Rattle.std.specs.Option.option_map_or (λ a. Rattle.clap.specs.Faults.positional_fault rules false a h) o (Rattle.clap.specs.Faults.stray_fault shape)) (index_of s)
      ∙ never (walk.is_pending (rule_of s) h.pending) [] (settle_fault rules false h)

  full_fault : is_none (step_fault shape (position_of full) h walk.value) ≡ false
  full_fault = ap (λ (o : Option Rule). is_none (Rattle.std.specs.Option.option_map_or (λ a. Rattle.clap.specs.Faults.positional_fault rules false a h) o (Rattle.clap.specs.Faults.stray_fault shape))) index_full

  -- a place takes the word, where the held text fails
  bad_place : (p : Place) → is_none (settle_fault rules false h) ≡ false → is_none (step_fault shape (position_of p) h walk.value) ≡ false
  bad_place first bad = ap is_none (spot_fault one) ∙ bad
  bad_place second bad = ap is_none (spot_fault two) ∙ bad
  bad_place third bad = ap is_none (spot_fault three) ∙ bad
  bad_place full bad = full_fault

  module _ (g : Given) (good : Good h g) (word : Text) (state : Waiting) (b : Bool) where
    spot_held : (s : Spot) → walk.positional_held rules (rule_of s) word h ≡ pend_for (name_of s) (word ∷ []) g
    spot_held s =
        ap (walk.pushed (name_of s) word) (never (walk.is_pending (rule_of s) h.pending) h (settled rules h) ∙ settled_is h g good)

    spot_to : (s : Spot) → to_positional rules (arg_by_index rules (position_of (place_of s))) word (walk_at h state (place_of s) b) h
        ≡ walk_at (pend_for (name_of s) (word ∷ []) g) walk.idle (next_of s) b
    spot_to s =
        let held = spot_held s in
        let next = next_is s in
        let trailing = or_false b in
        let same : ◌≡◌ {A = Walk} (to_positional rules (Some (rule_of s)) word (walk_at h state (place_of s) b) h) (walk_at (pend_for (name_of s) (word ∷ []) g) walk.idle (next_of s) b) =
        λ i. record { held = held i; waiting = walk.idle; position = next i; is_trailing = trailing i; stopped = None } in
        ap (λ (o : Option Rule). to_positional rules o word (walk_at h state (place_of s) b) h) (index_of s) ∙ same

-- ---- a held text that fails

doomed_behind : (words : List Text) (h : Held) (state : Waiting) (p : Place) → is_none (settle_fault rules false h) ≡ false → ends (walk_at h state p true) words ≡ None
doomed_behind [] h state p bad = ends_last (walk_at h state p true) ∙ final_bad h bad
doomed_behind (x ∷ xs) h state p bad = stops (walk_at h state p true) x xs (ap is_none (turn_behind h state p x) ∙ bad_place h p bad)

doomed_idle : (words : List Text) (h : Held) (p : Place) → is_none (settle_fault rules false h) ≡ false → h.skip ≡ 0 → ends (walk_at h walk.idle p false) words ≡ None
doomed_idle [] h p bad skip = ends_last (walk_at h walk.idle p false) ∙ final_bad h bad
doomed_idle (x ∷ xs) h p bad skip = go (class_of x)
  where
    go : Class x → ends (walk_at h walk.idle p false) (x ∷ xs) ≡ None
    go (dashes e) = goes (walk_at h walk.idle p false) (walk_at h walk.idle p true) x xs (turn_dashes h walk.idle p x refl e) (walked_dashes h walk.idle p x refl e) ∙ doomed_behind xs h walk.idle p bad
    go (attached name t e el eo) = stops (walk_at h walk.idle p false) x xs (ap is_none (turn_attached h walk.idle p x refl e name t el eo) ∙ else_fails _ [] (else_fails _ _ bad))
    go (attached_flag name t e el eo ef) = stops (walk_at h walk.idle p false) x xs (turn_attached_flag h walk.idle p x refl e name t el ef)
    go (unknown name v e el eo ef) = stops (walk_at h walk.idle p false) x xs (turn_unknown h walk.idle p x refl e name v el eo ef)
    go (waiting name e el eo) = stops (walk_at h walk.idle p false) x xs (ap is_none (turn_waiting h walk.idle p x refl e name el eo) ∙ else_fails _ [] bad)
    go (flagged name e el eo ef) = stops (walk_at h walk.idle p false) x xs (ap is_none (turn_flagged h walk.idle p x refl e name el ef) ∙ else_fails _ [] (else_fails _ _ bad))
    go (short flags c e el es ec) = stops (walk_at h walk.idle p false) x xs (turn_short h walk.idle p x refl e flags c el es ec skip)
    go (no_short flags e el es ec) = stops (walk_at h walk.idle p false) x xs (ap is_none (turn_no_short h walk.idle p x refl e el flags es ec skip) ∙ bad_place h p bad)
    go (plain e el es) = stops (walk_at h walk.idle p false) x xs (ap is_none (turn_plain h walk.idle p x refl e el es) ∙ bad_place h p bad)

-- ---- the plain reading, word by word

read_last : (mode : Mode) (free : List Text) (g : Given) → read mode free g [] ≡ reading.at_last mode g
unfolding read
read_last mode free g = refl

read_next : (mode : Mode) (free : List Text) (g : Given) (x : Text) (xs : List Text) → read mode free g (x ∷ xs) ≡ step mode x free g (λ m f k. read m f k xs)
unfolding read
read_next mode free g x xs = refl

module _ (word : Text) (free : List Text) (g : Given) (go : Go) where
  abbrev idle_step : Option Given
  idle_step = step reading.idle word free g go

  abbrev text_step : Text → Option Given
  text_step name = step (reading.waits name) word free g go

  module _ (e : bytes_eq word (codes "--") ≡ true) where
    read_dashes : idle_step ≡ go reading.behind free g
    read_dashes = rw e refl

    text_dashes : (name : Text) → text_step name ≡ None
    text_dashes name = rw e refl

  module _ (e : bytes_eq word (codes "--") ≡ false) where
    read_attached : (name t : Text) → Rattle.clap.specs.Lexer.long_of word ≡ Some (name, Some t) → is_option_name name ≡ true → idle_step ≡ add name t g (go reading.idle free)
    read_attached name t el eo = rw (e, el, eo) refl

    read_no_option : (name t : Text) → Rattle.clap.specs.Lexer.long_of word ≡ Some (name, Some t) → is_option_name name ≡ false → idle_step ≡ None
    read_no_option name t el eo = rw (e, el, eo) refl

    read_waiting : (name : Text) → Rattle.clap.specs.Lexer.long_of word ≡ Some (name, None) → is_option_name name ≡ true → idle_step ≡ go (reading.waits name) free g
    read_waiting name el eo = rw (e, el, eo) refl

    read_flagged : (name : Text) → Rattle.clap.specs.Lexer.long_of word ≡ Some (name, None) → is_option_name name ≡ false → is_flag_name name ≡ true
        → idle_step ≡ add (codes "bare") (codes "true") g (go reading.idle free)
    read_flagged name el eo ef = rw (e, el, eo, ef) refl

    read_unknown : (name : Text) (v : Option Text) → Rattle.clap.specs.Lexer.long_of word ≡ Some (name, v) → is_option_name name ≡ false → is_flag_name name ≡ false → idle_step ≡ None
    read_unknown name (Some t) el eo ef = rw (e, el, eo) refl
    read_unknown name None el eo ef = rw (e, el, eo, ef) refl

    text_long : (name : Text) (p : Text × Option Text) → Rattle.clap.specs.Lexer.long_of word ≡ Some p → text_step name ≡ None
    text_long name p el = rw (e, el) refl

    module _ (el : Rattle.clap.specs.Lexer.long_of word ≡ None) where
      read_short : reading.is_short word ≡ true → idle_step ≡ None
      read_short es = rw (e, el, es) refl

      read_plain : reading.is_short word ≡ false → idle_step ≡ placed free word g (go reading.idle)
      read_plain es = rw (e, el, es) refl

      text_short : (name : Text) → reading.is_short word ≡ true → text_step name ≡ None
      text_short name es = rw (e, el, es) refl

      text_plain : (name : Text) → reading.is_short word ≡ false → text_step name ≡ add name word g (go reading.idle free)
      text_plain name es = rw (e, el, es) refl

module _ (word flags : Text) (es : Rattle.clap.specs.Lexer.short_of word ≡ Some flags) where
  is_short_by : (x : ℕ) → Rattle.std.specs.Prelude.slice_get (Rattle.std.specs.Str.chars flags) 0 ≡ Some x → reading.is_short word ≡ true
  is_short_by x ec = rw (es, ec) refl

  no_short_by : Rattle.std.specs.Prelude.slice_get (Rattle.std.specs.Str.chars flags) 0 ≡ None → reading.is_short word ≡ false
  no_short_by ec = rw (es, ec) refl

plain_by : (word : Text) → Rattle.clap.specs.Lexer.short_of word ≡ None → reading.is_short word ≡ false
plain_by word es = rw es refl

-- one text more, or a second one
added : (name t : Text) (g : Given) (go : Given → Option Given) (o : Option (List Row)) → (is_given name g ≡ true → o ≡ None)
    → (is_given name g ≡ false → o ≡ option_and_then accept (go (g ++ (name, t) ∷ []))) → o ≡ option_and_then accept (add name t g go)
added name t g go o again new = by (is_given name g) refl
  where
    by : (b : Bool) → is_given name g ≡ b → o ≡ option_and_then accept (add name t g go)
    by true e = again e ∙ ap (λ (b : Bool). option_and_then accept (if b then None else go (g ++ (name, t) ∷ []))) (sym e)
    by false e = new e ∙ ap (λ (b : Bool). option_and_then accept (if b then None else go (g ++ (name, t) ∷ []))) (sym e)

-- a word by its place
module _ (h : Held) (g : Given) (good : Good h g) (state : Waiting) (b : Bool) (word : Text) (words : List Text) (go : List Text → Given → Option Given)
    (next : (k : Held) (f : Given) (p : Place) → Good k f → ends (walk_at k walk.idle p b) words ≡ option_and_then accept (go (free_of p) f))
    (doomed : (k : Held) (p : Place) → is_none (settle_fault rules false k) ≡ false → k.skip ≡ 0 → ends (walk_at k walk.idle p b) words ≡ None) where
  abbrev Turns : Place → Type 0
  Turns p = turn_fault shape [] (walk_at h state p b) word ≡ step_fault shape (position_of p) h walk.value

  abbrev Walks : Place → Type 0
  Walks p = walked rules [] (walk_at h state p b) word ≡ to_positional rules (arg_by_index rules (position_of p)) word (walk_at h state p b) h

  at_spot : (s : Spot) → Turns (place_of s) → Walks (place_of s) → ends (walk_at h state (place_of s) b) (word ∷ words) ≡ option_and_then accept (placed (free_of (place_of s)) word g go)
  at_spot s turn to =
      goes (walk_at h state (place_of s) b) (walk_at (pend_for (name_of s) (word ∷ []) g) walk.idle (next_of s) b) word words
      (turn ∙ spot_fault h s ∙ good.fine) (to ∙ spot_to h g good word state b s)
      ∙ added (name_of s) word g (go (free_of (next_of s))) (ends (walk_at (pend_for (name_of s) (word ∷ []) g) walk.idle (next_of s) b) words)
      (λ e. doomed (pend_for (name_of s) (word ∷ []) g) (next_of s) (bad_pend (name_of s) word g (known_of s) e) refl)
      (λ e. next (pend_for (name_of s) (word ∷ []) g) (g ++ (name_of s, word) ∷ []) (next_of s) (good_pend (name_of s) word g (known_of s) e))
      ∙ ap (option_and_then accept) (sym (placed_is s word g go))

  at_place : (p : Place) → Turns p → Walks p → ends (walk_at h state p b) (word ∷ words) ≡ option_and_then accept (placed (free_of p) word g go)
  at_place first turn to = at_spot one turn to
  at_place second turn to = at_spot two turn to
  at_place third turn to = at_spot three turn to
  at_place full turn to = stops (walk_at h state full b) word words (ap is_none turn ∙ full_fault h)

-- an option's text
itself : (name : Text) → bytes_eq name name ≡ true
itself name = (bytes_eq-Decides name name).1 refl

option_at : (name word : Text) (g : Given) → Known name → walk.option_word (Rattle.clap.specs.Walk.arg_by_id rules name) name word (pend_for name [] g) ≡ (pend_for name (word ∷ []) g, walk.idle)
option_at name word g k =
    let same = itself name in
    let is : walk.option_word (Some (text_rule name k.long k.index k.required)) name word (pend_for name [] g) ≡ (pend_for name (word ∷ []) g, walk.idle) = rw same refl in
    ap (λ (o : Option Rule). walk.option_word o name word (pend_for name [] g)) k.at ∙ is

-- ---- all words

-- from where a walk stands well, its end is that of the plain reading
record AtWords (words : List Text) : Type 0 where
  idle : (h : Held) (g : Given) (p : Place) → Good h g → ends (walk_at h walk.idle p false) words ≡ option_and_then accept (read reading.idle (free_of p) g words)
  behind : (h : Held) (g : Given) (p : Place) (state : Waiting) → Good h g → ends (walk_at h state p true) words ≡ option_and_then accept (read reading.behind (free_of p) g words)
  waits : (name : Text) (g : Given) (p : Place) → is_option_name name ≡ true
      → ends (walk_at (pend_for name [] g) (walk.option name) p false) words ≡ option_and_then accept (read (reading.waits name) (free_of p) g words)

at_none : AtWords []
at_none = record {
  idle = λ h g p good. ends_last (walk_at h walk.idle p false) ∙ final_good h g good ∙ ap (option_and_then accept) (sym (read_last reading.idle (free_of p) g));
  behind = λ h g p state good. ends_last (walk_at h state p true) ∙ final_good h g good ∙ ap (option_and_then accept) (sym (read_last reading.behind (free_of p) g));
  waits = λ name g p e. ends_last (walk_at (pend_for name [] g) (walk.option name) p false) ∙ final_bad (pend_for name [] g) (bad_wait name g (known_option name e))
      ∙ ap (option_and_then accept) (sym (read_last (reading.waits name) (free_of p) g));
}

module _ (x : Text) (xs : List Text) (rest : AtWords xs) where
  abbrev on : Go
  on = λ m f k. read m f k xs

  next_behind : (h : Held) (g : Given) (p : Place) (state : Waiting) → Good h g → ends (walk_at h state p true) (x ∷ xs) ≡ option_and_then accept (read reading.behind (free_of p) g (x ∷ xs))
  next_behind h g p state good =
      at_place h g good state true x xs (on reading.behind) (λ k f q good_k. rest.behind k f q walk.idle good_k) (λ k q bad skip. doomed_behind xs k walk.idle q bad) p
      (turn_behind h state p x) (walked_behind h state p x)
      ∙ ap (option_and_then accept) (sym (read_next reading.behind (free_of p) g x xs))

  module _ (h : Held) (g : Given) (p : Place) (good : Good h g) where
    abbrev here : Option (List Row)
    here = ends (walk_at h walk.idle p false) (x ∷ xs)

    abbrev Reads : Option Given → Type 0
    Reads o = here ≡ option_and_then accept o

    by_step : (o : Option Given) → step reading.idle x (free_of p) g on ≡ o → Reads o → Reads (step reading.idle x (free_of p) g on)
    by_step o is h = h ∙ ap (option_and_then accept) (sym is)

    at_attached : (name t : Text) → bytes_eq x (codes "--") ≡ false → Rattle.clap.specs.Lexer.long_of x ≡ Some (name, Some t) → is_option_name name ≡ true
        → Reads (add name t g (on reading.idle (free_of p)))
    at_attached name t e el eo =
        let turn = turn_attached h walk.idle p x refl e name t el eo in
        let to = walked_attached h walk.idle p x refl e name t el eo in
        let faults = ap₂ (λ (k : Kinds) (rows : List Row). or_else (or_else k (use_fault false (option_built name) (t ∷ []) rows)) []) good.fine good.rows in
        added name t g (on reading.idle (free_of p)) here
        (λ again. stops (walk_at h walk.idle p false) x xs (ap is_none (turn ∙ faults) ∙ else_fails _ [] (text_again name (Some name) None false t g again)))
        (λ new. goes (walk_at h walk.idle p false) (walk_at (held_for (g ++ (name, t) ∷ [])) walk.idle p false) x xs
        (turn ∙ faults ∙ ap (λ (k : Kinds). or_else k []) (text_fine name (Some name) None false t g new))
        (to ∙ ap (λ (k : Held). walk_at k walk.idle p false) (good_reacted name t h g good new))
        ∙ rest.idle (held_for (g ++ (name, t) ∷ [])) (g ++ (name, t) ∷ []) p (good_held (g ++ (name, t) ∷ [])))

    at_flagged : (name : Text) → bytes_eq x (codes "--") ≡ false → Rattle.clap.specs.Lexer.long_of x ≡ Some (name, None) → is_flag_name name ≡ true
        → Reads (add (codes "bare") (codes "true") g (on reading.idle (free_of p)))
    at_flagged name e el ef =
        let turn = turn_flagged h walk.idle p x refl e name el ef in
        let to = walked_flagged h walk.idle p x refl e name el ef in
        let faults = ap₂ (λ (k : Kinds) (rows : List Row). or_else (or_else k (use_fault false flag_built [] rows)) []) good.fine good.rows in
        added (codes "bare") (codes "true") g (on reading.idle (free_of p)) here
        (λ again. stops (walk_at h walk.idle p false) x xs (ap is_none (turn ∙ faults) ∙ else_fails _ [] (flag_again g again)))
        (λ new. goes (walk_at h walk.idle p false) (walk_at (held_for (g ++ (codes "bare", codes "true") ∷ [])) walk.idle p false) x xs
        (turn ∙ faults ∙ ap (λ (k : Kinds). or_else k []) (flag_fine g new))
        (to ∙ ap (λ (k : Held). walk_at k walk.idle p false) (good_flagged h g good new))
        ∙ rest.idle (held_for (g ++ (codes "bare", codes "true") ∷ [])) (g ++ (codes "bare", codes "true") ∷ []) p (good_held (g ++ (codes "bare", codes "true") ∷ [])))

    at_waiting : (name : Text) → bytes_eq x (codes "--") ≡ false → Rattle.clap.specs.Lexer.long_of x ≡ Some (name, None) → is_option_name name ≡ true
        → Reads (on (reading.waits name) (free_of p) g)
    at_waiting name e el eo =
        goes (walk_at h walk.idle p false) (walk_at (pend_for name [] g) (walk.option name) p false) x xs
        (turn_waiting h walk.idle p x refl e name el eo ∙ ap (λ (k : Kinds). or_else k []) good.fine)
        (walked_waiting h walk.idle p x refl e name el eo
        ∙ ap (λ (k : Held). walk_at (record k { pending = Some (name, []) }) (walk.option name) p false) (settled_is h g good))
        ∙ rest.waits name g p eo

    at_dashes : bytes_eq x (codes "--") ≡ true → Reads (on reading.behind (free_of p) g)
    at_dashes e =
        goes (walk_at h walk.idle p false) (walk_at h walk.idle p true) x xs (turn_dashes h walk.idle p x refl e) (walked_dashes h walk.idle p x refl e)
        ∙ rest.behind h g p walk.idle good

    by_place : turn_fault shape [] (walk_at h walk.idle p false) x ≡ step_fault shape (position_of p) h walk.value
        → walked rules [] (walk_at h walk.idle p false) x ≡ to_positional rules (arg_by_index rules (position_of p)) x (walk_at h walk.idle p false) h
        → Reads (placed (free_of p) x g (on reading.idle))
    by_place turn to =
        at_place h g good walk.idle false x xs (on reading.idle) (λ k f q good_k. rest.idle k f q good_k) (λ k q bad skip. doomed_idle xs k q bad skip) p turn to

    by_class : Class x → Reads (step reading.idle x (free_of p) g on)
    by_class (dashes e) = by_step _ (read_dashes x (free_of p) g on e) (at_dashes e)
    by_class (attached name t e el eo) = by_step _ (read_attached x (free_of p) g on e name t el eo) (at_attached name t e el eo)
    by_class (attached_flag name t e el eo ef) =
        by_step None (read_no_option x (free_of p) g on e name t el eo) (stops (walk_at h walk.idle p false) x xs (turn_attached_flag h walk.idle p x refl e name t el ef))
    by_class (unknown name v e el eo ef) =
        by_step None (read_unknown x (free_of p) g on e name v el eo ef) (stops (walk_at h walk.idle p false) x xs (turn_unknown h walk.idle p x refl e name v el eo ef))
    by_class (waiting name e el eo) = by_step _ (read_waiting x (free_of p) g on e name el eo) (at_waiting name e el eo)
    by_class (flagged name e el eo ef) = by_step _ (read_flagged x (free_of p) g on e name el eo ef) (at_flagged name e el ef)
    by_class (short flags c e el es ec) =
        by_step None (read_short x (free_of p) g on e el (is_short_by x flags es c ec)) (stops (walk_at h walk.idle p false) x xs (turn_short h walk.idle p x refl e flags c el es ec good.skip))
    by_class (no_short flags e el es ec) =
        by_step _ (read_plain x (free_of p) g on e el (no_short_by x flags es ec))
        (by_place (turn_no_short h walk.idle p x refl e el flags es ec good.skip) (walked_no_short h walk.idle p x refl e el flags es ec good.skip))
    by_class (plain e el es) =
        by_step _ (read_plain x (free_of p) g on e el (plain_by x es)) (by_place (turn_plain h walk.idle p x refl e el es) (walked_plain h walk.idle p x refl e el es))

    next_idle : here ≡ option_and_then accept (read reading.idle (free_of p) g (x ∷ xs))
    next_idle = by_class (class_of x) ∙ ap (option_and_then accept) (sym (read_next reading.idle (free_of p) g x xs))

  -- at the text of an option
  module _ (name : Text) (g : Given) (p : Place) (eo : is_option_name name ≡ true) where
    abbrev held : Held
    held = pend_for name [] g

    abbrev wait_here : Option (List Row)
    wait_here = ends (walk_at held (walk.option name) p false) (x ∷ xs)

    abbrev Waits : Option Given → Type 0
    Waits o = wait_here ≡ option_and_then accept o

    by_text : (o : Option Given) → step (reading.waits name) x (free_of p) g on ≡ o → Waits o → Waits (step (reading.waits name) x (free_of p) g on)
    by_text o is h = h ∙ ap (option_and_then accept) (sym is)

    bad : is_none (settle_fault rules false held) ≡ false
    bad = bad_wait name g (known_option name eo)

    text_stops : is_none (turn_fault shape [] (walk_at held (walk.option name) p false) x) ≡ false → Waits None
    text_stops e = stops (walk_at held (walk.option name) p false) x xs e

    text_goes : turn_fault shape [] (walk_at held (walk.option name) p false) x
        ≡ step_fault shape (position_of p) (walk.plain_word rules (walk.option name) x held).0 (walk.plain_word rules (walk.option name) x held).1
        → walked rules [] (walk_at held (walk.option name) p false) x
        ≡ walk.after_step rules x (walk_at held (walk.option name) p false) (walk.plain_word rules (walk.option name) x held).0 (walk.plain_word rules (walk.option name) x held).1
        → Waits (add name x g (on reading.idle (free_of p)))
    text_goes turn to =
        let k = known_option name eo in
        goes (walk_at held (walk.option name) p false) (walk_at (pend_for name (x ∷ []) g) walk.idle p false) x xs turn
        (to ∙ ap (λ (q : Held × Waiting). walk_at q.0 q.1 p false) (option_at name x g k))
        ∙ added name x g (on reading.idle (free_of p)) (ends (walk_at (pend_for name (x ∷ []) g) walk.idle p false) xs)
        (λ again. doomed_idle xs (pend_for name (x ∷ []) g) p (bad_pend name x g k again) refl)
        (λ new. rest.idle (pend_for name (x ∷ []) g) (g ++ (name, x) ∷ []) p (good_pend name x g k new))

    at_class : Class x → Waits (step (reading.waits name) x (free_of p) g on)
    at_class (dashes e) =
        by_text None (text_dashes x (free_of p) g on e name)
        (goes (walk_at held (walk.option name) p false) (walk_at held (walk.option name) p true) x xs (turn_dashes held (walk.option name) p x refl e) (walked_dashes held (walk.option name) p x refl e)
        ∙ doomed_behind xs held (walk.option name) p bad)
    at_class (attached other t e el en) =
        by_text None (text_long x (free_of p) g on e name (other, Some t) el)
        (text_stops (ap is_none (turn_attached held (walk.option name) p x refl e other t el en) ∙ else_fails _ [] (else_fails _ _ bad)))
    at_class (attached_flag other t e el en ef) =
        by_text None (text_long x (free_of p) g on e name (other, Some t) el) (text_stops (turn_attached_flag held (walk.option name) p x refl e other t el ef))
    at_class (unknown other v e el en ef) =
        by_text None (text_long x (free_of p) g on e name (other, v) el) (text_stops (turn_unknown held (walk.option name) p x refl e other v el en ef))
    at_class (waiting other e el en) =
        by_text None (text_long x (free_of p) g on e name (other, None) el)
        (text_stops (ap is_none (turn_waiting held (walk.option name) p x refl e other el en) ∙ else_fails _ [] bad))
    at_class (flagged other e el en ef) =
        by_text None (text_long x (free_of p) g on e name (other, None) el)
        (text_stops (ap is_none (turn_flagged held (walk.option name) p x refl e other el ef) ∙ else_fails _ [] (else_fails _ _ bad)))
    at_class (short flags c e el es ec) =
        by_text None (text_short x (free_of p) g on e el name (is_short_by x flags es c ec)) (text_stops (turn_short held (walk.option name) p x refl e flags c el es ec refl))
    at_class (no_short flags e el es ec) =
        by_text _ (text_plain x (free_of p) g on e el name (no_short_by x flags es ec))
        (text_goes (turn_no_short held (walk.option name) p x refl e el flags es ec refl) (walked_no_short held (walk.option name) p x refl e el flags es ec refl))
    at_class (plain e el es) =
        by_text _ (text_plain x (free_of p) g on e el name (plain_by x es))
        (text_goes (turn_plain held (walk.option name) p x refl e el es) (walked_plain held (walk.option name) p x refl e el es))

    next_waits : wait_here ≡ option_and_then accept (read (reading.waits name) (free_of p) g (x ∷ xs))
    next_waits = at_class (class_of x) ∙ ap (option_and_then accept) (sym (read_next (reading.waits name) (free_of p) g x xs))

  at_more : AtWords (x ∷ xs)
  at_more = record {
    idle = λ h g p good. next_idle h g p good;
    behind = λ h g p state good. next_behind h g p state good;
    waits = λ name g p eo. next_waits name g p eo;
  }

at_words : (words : List Text) → AtWords words
at_words [] = at_none
at_words (x ∷ xs) = at_more x xs (at_words xs)

-- the command's walk over the words ends as the plain reading does
pub ends_read : (words : List Text) → ends (walk_at (held_for []) walk.idle first false) words ≡ option_and_then accept (read reading.idle (free_of first) [] words)
ends_read words = (at_words words).idle (held_for []) [] first (good_held [])
