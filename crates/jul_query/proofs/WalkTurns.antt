-- What `clap` does at one word.
use Rattle.std.proofs.Common.{◌≡◌, ◌∙◌, ℕ, Bool, true, false, List, [], ◌∷◌, Option, Some, None, refl, sym, ap, ap₂, true≢false, length, codes}
use Rattle.std.specs.Option.{is_some}
use Rattle.std.specs.Prelude.{slice_get}
use Rattle.std.specs.Str.{bytes_eq, chars}
use Rattle.std.proofs.lemmas.Str.{chars-nil}
use Rattle.clap.proofs.WalkLemmas.{bundle_ends}
use Rattle.clap.specs.Lexer.{long_of, short_of}
use Rattle.clap.specs.Words.{Kinds, Shape, Text}
use Rattle.clap.specs.Kinds.{or_else}
use Rattle.clap.specs.Walk as walk
use Rattle.clap.specs.Walk.{Held, Step, Waiting, Walk, Outcome, arg_by_id, arg_by_index, arg_by_long, arg_by_short, bundle_met, reacted, settled, settled_rows, subcommand_met, to_positional, walked}
use Rattle.clap.specs.Faults.{flags_fault, settle_fault, step_fault, turn_fault, use_fault}
use Rattle.jul_query.specs.Command.{is_none}
use Rattle.jul_query.specs.Splitting.{is_flag_name, is_option_name}
use Rattle.jul_query.proofs.WalkRules.{Place, flag_built, long_flag, long_none, long_option, option_built, position_of, rules, shape_with, short_none}

abbrev pub shape : Shape
shape = shape_with rules

abbrev pub walk_at : Held → Waiting → Place → Bool → Walk
walk_at h state p b = record { held = h; waiting = state; position = position_of p; is_trailing = b; stopped = None }

-- what a word is
pub data Class (word : Text) : Type 0 where
  dashes : bytes_eq word (codes "--") ≡ true → Class word
  attached : (name t : Text) → bytes_eq word (codes "--") ≡ false → long_of word ≡ Some (name, Some t) → is_option_name name ≡ true → Class word
  attached_flag : (name t : Text) → bytes_eq word (codes "--") ≡ false → long_of word ≡ Some (name, Some t) → is_option_name name ≡ false → is_flag_name name ≡ true → Class word
  unknown : (name : Text) (v : Option Text) → bytes_eq word (codes "--") ≡ false → long_of word ≡ Some (name, v) → is_option_name name ≡ false → is_flag_name name ≡ false → Class word
  waiting : (name : Text) → bytes_eq word (codes "--") ≡ false → long_of word ≡ Some (name, None) → is_option_name name ≡ true → Class word
  flagged : (name : Text) → bytes_eq word (codes "--") ≡ false → long_of word ≡ Some (name, None) → is_option_name name ≡ false → is_flag_name name ≡ true → Class word
  short : (flags : Text) (x : ℕ) → bytes_eq word (codes "--") ≡ false → long_of word ≡ None → short_of word ≡ Some flags → slice_get (chars flags) 0 ≡ Some x → Class word
  no_short : (flags : Text) → bytes_eq word (codes "--") ≡ false → long_of word ≡ None → short_of word ≡ Some flags → slice_get (chars flags) 0 ≡ None → Class word
  plain : bytes_eq word (codes "--") ≡ false → long_of word ≡ None → short_of word ≡ None → Class word

module _ (word : Text) where
  by_chars : (flags : Text) (o : Option ℕ) → slice_get (chars flags) 0 ≡ o → bytes_eq word (codes "--") ≡ false → long_of word ≡ None → short_of word ≡ Some flags → Class word
  by_chars flags (Some x) ec e el es = short flags x e el es ec
  by_chars flags None ec e el es = no_short flags e el es ec

  by_short : (o : Option Text) → short_of word ≡ o → bytes_eq word (codes "--") ≡ false → long_of word ≡ None → Class word
  by_short (Some flags) es e el = by_chars flags (slice_get (chars flags) 0) refl e el es
  by_short None es e el = plain e el es

  by_name : (name : Text) (v : Option Text) (o f : Bool) → is_option_name name ≡ o → is_flag_name name ≡ f → bytes_eq word (codes "--") ≡ false → long_of word ≡ Some (name, v) → Class word
  by_name name (Some t) true f eo ef e el = attached name t e el eo
  by_name name (Some t) false true eo ef e el = attached_flag name t e el eo ef
  by_name name (Some t) false false eo ef e el = unknown name (Some t) e el eo ef
  by_name name None true f eo ef e el = waiting name e el eo
  by_name name None false true eo ef e el = flagged name e el eo ef
  by_name name None false false eo ef e el = unknown name None e el eo ef

  by_long : (o : Option (Text × Option Text)) → long_of word ≡ o → bytes_eq word (codes "--") ≡ false → Class word
  by_long (Some p) el e = by_name p.0 p.1 (is_option_name p.0) (is_flag_name p.0) refl refl e el
  by_long None el e = by_short (short_of word) refl e el

  by_dashes : (b : Bool) → bytes_eq word (codes "--") ≡ b → Class word
  by_dashes true e = dashes e
  by_dashes false e = by_long (long_of word) refl e

  pub class_of : Class word
  class_of = by_dashes (bytes_eq word (codes "--")) refl

-- ---- a bundle of short flags

module _ (h : Held) where
  pub bundle_fails : (flags : Text) (x skip : ℕ) → slice_get (chars flags) 0 ≡ Some x → skip ≡ 0 → is_none (flags_fault rules false (length flags) flags skip h) ≡ false
  unfolding flags_fault
  bundle_fails [] x skip e s = absurd (true≢false (sym (ap is_some (sym (ap (λ (cs : List ℕ). slice_get cs 0) chars-nil) ∙ e))))
  bundle_fails (f ∷ fs) x skip e s = rw (e, s, short_none x) refl

  pub bundle_passes : (flags : Text) (skip : ℕ) → slice_get (chars flags) 0 ≡ None → flags_fault rules false (length flags) flags skip h ≡ []
  unfolding flags_fault
  bundle_passes [] skip e = refl
  bundle_passes (f ∷ fs) skip e = rw e refl

-- ---- turns

-- nothing that waits is a subcommand's name
abbrev pub IsQuiet : Waiting → Text → Type 0
IsQuiet state word = subcommand_met [] state word ≡ None

module _ (h : Held) (state : Waiting) (p : Place) (word : Text) (quiet : IsQuiet state word) where
  abbrev at : Walk
  at = walk_at h state p false

  abbrev turn : Kinds
  turn = turn_fault shape [] at word

  module _ (e : bytes_eq word (codes "--") ≡ true) where
    pub turn_dashes : turn ≡ []
    turn_dashes = rw (quiet, e) refl

    pub walked_dashes : walked rules [] at word ≡ walk_at h state p true
    unfolding walked
    walked_dashes = rw (quiet, e) refl

  module _ (e : bytes_eq word (codes "--") ≡ false) where
    module _ (name t : Text) (el : long_of word ≡ Some (name, Some t)) (eo : is_option_name name ≡ true) where
      pub turn_attached : turn ≡ or_else (or_else (settle_fault rules false h) (use_fault false (option_built name) (t ∷ []) (settled_rows rules h.pending h.rows))) []
      turn_attached = rw (quiet, e, el, long_option name eo) refl

      pub walked_attached : walked rules [] at word ≡ walk_at (reacted rules (option_built name) (t ∷ []) h) walk.idle p false
      unfolding walked
      walked_attached = rw (quiet, e, el, long_option name eo) refl

    module _ (name : Text) (el : long_of word ≡ Some (name, None)) (eo : is_option_name name ≡ true) where
      pub turn_waiting : turn ≡ or_else (settle_fault rules false h) []
      turn_waiting = rw (quiet, e, el, long_option name eo) refl

      pub walked_waiting : walked rules [] at word ≡ walk_at (record (settled rules h) { pending = Some (name, []) }) (walk.option name) p false
      unfolding walked
      walked_waiting = rw (quiet, e, el, long_option name eo) refl

    module _ (name : Text) (el : long_of word ≡ Some (name, None)) (ef : is_flag_name name ≡ true) where
      pub turn_flagged : turn ≡ or_else (or_else (settle_fault rules false h) (use_fault false flag_built [] (settled_rows rules h.pending h.rows))) []
      turn_flagged = rw (quiet, e, el, long_flag name ef) refl

      pub walked_flagged : walked rules [] at word ≡ walk_at (reacted rules flag_built [] h) walk.idle p false
      unfolding walked
      walked_flagged = rw (quiet, e, el, long_flag name ef) refl

    pub turn_attached_flag : (name t : Text) → long_of word ≡ Some (name, Some t) → is_flag_name name ≡ true → is_none turn ≡ false
    turn_attached_flag name t el ef = rw (quiet, e, el, long_flag name ef) refl

    pub turn_unknown : (name : Text) (v : Option Text) → long_of word ≡ Some (name, v) → is_option_name name ≡ false → is_flag_name name ≡ false → is_none turn ≡ false
    turn_unknown name v el eo ef = rw (quiet, e, el, long_none name eo ef) refl

    else_fails : (k l : Kinds) → is_none k ≡ false → is_none (or_else k l) ≡ false
    else_fails [] l bad = absurd (true≢false bad)
    else_fails (k ∷ ks) l bad = refl

    pub turn_short : (flags : Text) (x : ℕ) → long_of word ≡ None → short_of word ≡ Some flags → slice_get (chars flags) 0 ≡ Some x → h.skip ≡ 0 → is_none turn ≡ false
    turn_short flags x el es ec s =
        let fails = bundle_fails (record h { skip = 0 }) flags x h.skip ec s in
        let is : turn ≡ or_else (flags_fault rules false (length flags) flags h.skip (record h { skip = 0 }))
        (step_fault shape (position_of p) (walk.short_word rules state word flags h).0 (walk.short_word rules state word flags h).1) = rw (quiet, e, el, es) refl in
        ap is_none is ∙ else_fails _ _ fails

    -- the word is no flag
    abbrev met : Held × Step
    met = walk.plain_word rules state word h

    module _ (el : long_of word ≡ None) where
      pub turn_plain : short_of word ≡ None → turn ≡ step_fault shape (position_of p) met.0 met.1
      turn_plain es = rw (quiet, e, el, es) refl

      pub walked_plain : short_of word ≡ None → walked rules [] at word ≡ walk.after_step rules word at met.0 met.1
      unfolding walked
      walked_plain es = rw (quiet, e, el, es) refl

      module _ (flags : Text) (es : short_of word ≡ Some flags) (ec : slice_get (chars flags) 0 ≡ None) (s : h.skip ≡ 0) where
        same_held : ◌≡◌ {A = Held} (record h { skip = 0 }) h
        same_held = λ i. record h { skip = sym s i }

        bundled : walk.bundle rules flags h ≡ (h, walk.plain)
        bundled = sym (bundle_ends rules (length flags) flags h.skip walk.plain (record h { skip = 0 }) (sym ec)) ∙ ap (λ (k : Held). (k, walk.plain)) same_held

        pub turn_no_short : turn ≡ step_fault shape (position_of p) met.0 met.1
        turn_no_short =
            let is : turn ≡ or_else (flags_fault rules false (length flags) flags h.skip (record h { skip = 0 }))
            (step_fault shape (position_of p) (walk.short_word rules state word flags h).0 (walk.short_word rules state word flags h).1) = rw (quiet, e, el, es) refl in
            is ∙ ap₂ (λ (k : Kinds) (b : Held × Outcome). or_else k (step_fault shape (position_of p) (walk.after_flag rules state word b.0 b.1).0 (walk.after_flag rules state word b.0 b.1).1))
            (bundle_passes (record h { skip = 0 }) flags h.skip ec) bundled

        walked_short : walked rules [] at word ≡ walk.after_step rules word at (walk.short_word rules state word flags h).0 (walk.short_word rules state word flags h).1
        unfolding walked
        walked_short = rw (quiet, e, el, es) refl

        pub walked_no_short : walked rules [] at word ≡ walk.after_step rules word at met.0 met.1
        walked_no_short =
            walked_short ∙ ap (λ (b : Held × Outcome). walk.after_step rules word at (walk.after_flag rules state word b.0 b.1).0 (walk.after_flag rules state word b.0 b.1).1) bundled

-- behind `--`
module _ (h : Held) (state : Waiting) (p : Place) (word : Text) where
  pub turn_behind : turn_fault shape [] (walk_at h state p true) word ≡ step_fault shape (position_of p) h walk.value
  turn_behind = refl

  pub walked_behind : walked rules [] (walk_at h state p true) word ≡ to_positional rules (arg_by_index rules (position_of p)) word (walk_at h state p true) h
  unfolding walked
  walked_behind = refl
