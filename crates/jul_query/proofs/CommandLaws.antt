-- The command, and what its contract says of the command_split words.
use Rattle.std.proofs.Common.{◌≡◌, ◌≢◌, ◌∙◌, true, false, List, [], ◌∷◌, Some, None, inl, inr, refl, sym, ap, subst}
use Rattle.clap.specs.Words.{App, Text, HasKind, HasMatchesOf, Kinds, is_simple, is_simple_and_free, fault_of, found_of, rows_of, kind_of}
use Rattle.clap.specs.declared.error.Error.{Error}
use Rattle.clap.specs.declared.error.kind.ErrorKind.TheVariants.{OutOfMemory}
use Rattle.clap.specs.declared.parser.matches.ArgMatches.{ArgMatches}
use Rattle.jul_query.specs.Command.{command_app, is_none, is_taken, rows_at, command_split, split_from}
use Rattle.jul_query.specs.Splitting.{Split}

simple : is_simple command_app ≡ true
simple = refl

-- no argument has a rule on another
free : is_simple_and_free command_app ≡ true
free = refl

taken_by : (words : List Text) → is_taken words ≡ true → command_split words ≡ Some (split_from (rows_at words))
unfolding command_split
taken_by words e = rw e refl

refused_by : (words : List Text) → is_taken words ≡ false → command_split words ≡ None
unfolding command_split
refused_by words e = rw e refl

no_fault : (words : List Text) → fault_of command_app words ≡ [] → is_taken words ≡ true
unfolding is_taken
no_fault words e = rw e refl

some_fault : (words : List Text) (e : Error) → HasKind (fault_of command_app words) e → kind_of e ≢ OutOfMemory → is_taken words ≡ false
unfolding is_taken
some_fault words e h other = go (fault_of command_app words) h
  where
    go : (kinds : Kinds) → HasKind kinds e → is_none kinds ≡ false
    go kinds (inl memory) = absurd (other memory)
    go [] (inr among) = absurd among
    go (k ∷ ks) (inr among) = refl

rows_are : (words : List Text) (m : ArgMatches) → HasMatchesOf command_app words m → rows_of (found_of m) ≡ rows_at words
unfolding rows_at
rows_are words m h = (h simple).0

-- an Ok of the parse
pub split_ok : (a : App) (words : List Text) (m : ArgMatches) (line : Split) → a ≡ command_app → (is_simple_and_free a ≡ true → fault_of a words ≡ []) → HasMatchesOf a words m
    → line ≡ split_from (rows_of (found_of m)) → Some line ≡ command_split words
split_ok a words m line is kinds matches from =
    let fine = subst (λ (b : App). is_simple_and_free b ≡ true → fault_of b words ≡ []) is kinds in
    let rows = rows_are words m (subst (λ (b : App). HasMatchesOf b words m) is matches) in
    ap Some (from ∙ ap split_from rows) ∙ sym (taken_by words (no_fault words (fine free)))

-- an Err of it that is no want of memory
pub split_err : (a : App) (words : List Text) (e : Error) → a ≡ command_app → (is_simple_and_free a ≡ true → HasKind (fault_of a words) e) → kind_of e ≢ OutOfMemory
    → None ≡ command_split words
split_err a words e is kinds other =
    let fails = subst (λ (b : App). is_simple_and_free b ≡ true → HasKind (fault_of b words) e) is kinds in
    sym (refused_by words (some_fault words e (fails free) other))
