-- What the words ask for, step by step.
use Rattle.std.proofs.Common.{◌≡◌, ◌∙◌, ℕ, Bool, true, false, if◌then◌else◌, List, codes, Option, Some, None, Result, IfOk, Ok, Err, refl, sym, ap}
use Rattle.std.specs.Option.{option_map, option_and_then}
use Rattle.std.specs.Str.{bytes_eq}
use Rattle.std.specs.declared.alloc.AllocError.{AllocError}
use Rattle.clap.specs.Words.{Text}
use Rattle.jul_query.specs.declared.command_line.CommandLine.{CommandLine}
use Rattle.jul_query.specs.declared.queries.Query.{Query}
use Rattle.jul_query.specs.declared.queries.Task.{Task}
use Rattle.jul_query.specs.declared.queries.Task.TheVariants.{Wbfs, Delta, Kcore, Cover}
use Rattle.jul_query.specs.Counting.{is_counted_twice}
use Rattle.jul_query.specs.CommandLines.{split_by}
use Rattle.jul_query.specs.Settings.{settings_asked}
use Rattle.jul_query.specs.Splitting.{Split, split}
use Rattle.jul_query.specs.Asking.{IsAsked, asked_by}
use Rattle.jul_query.specs.Queries.{Purpose, check, upgrade, Asked, meant}
use Rattle.jul_query.specs.Words.{is_absent, task_of, sources_named, sources_asked, problem_asked, asked_run, asked_judgement, asked_check, asked_demo, asked_as, asked, asked_split}

pub asked_twice : (words : List Text) (is : Bool) → is ≡ is_counted_twice words → is ≡ true → asked words ≡ None
unfolding asked
asked_twice words is same e = rw (sym same ∙ e) refl

asked_once : (words : List Text) (is : Bool) → is ≡ is_counted_twice words → is ≡ false → asked words ≡ option_and_then asked_split (split words)
unfolding asked
asked_once words is same e = rw (sym same ∙ e) refl

-- by the line that the words are split into, if any
pub asked_line : (words : List Text) (is : Bool) (o : Option CommandLine) → is ≡ is_counted_twice words → is ≡ false → option_map split_by o ≡ split words
    → asked words ≡ option_and_then asked_split (option_map split_by o)
asked_line words is o same e h = asked_once words is same e ∙ ap (option_and_then asked_split) (sym h)

IsAsked-map : (q : Option Query) (a : Option Asked) → option_map asked_by q ≡ a → IsAsked q a
IsAsked-map None a e = sym e
IsAsked-map (Some q) a e = sym e

pub IsAsked-ok : (r : Result (Option Query) AllocError) (a b : Option Asked) → IfOk r (λ q. option_map asked_by q ≡ a) → b ≡ a → IfOk r (λ q. IsAsked q b)
IsAsked-ok (Ok q) a b is same = IsAsked-map q b (is ∙ sym same)
IsAsked-ok (Err e) a b is same = tt

-- ---- where `--source` isn't a list of sources, no task is taken

both_none : {X : Type 0} (test : Bool) (o p : Option X) → o ≡ None → p ≡ None → (if test then o else p) ≡ None
both_none true o p first second = first
both_none false o p first second = second

none_of_each : {X Y : Type 0} (f : X → Option Y) (o : Option X) → ((x : X) → f x ≡ None) → option_and_then f o ≡ None
none_of_each f None each = refl
none_of_each f (Some x) each = each x

unnamed : (sources : Option (Option (List ℕ))) → option_map meant sources ≡ None → sources ≡ None
unnamed None none = refl
unnamed (Some sources) none = absurd (cc)

given : (source : Option Text) → sources_named source ≡ None → is_absent source ≡ false
given None none = absurd (cc)
given (Some text) none = refl

module _ (s : Split) (none : sources_asked s ≡ None) where
  problem_none : (task : Task) → problem_asked task s ≡ None
  problem_none Wbfs = both_none _ _ _ (ap (option_map _) none) refl
  problem_none Delta = none_of_each _ _ (λ delta. ap (option_map _) none)
  problem_none Kcore = rw (given s.source (unnamed _ none)) refl
  problem_none Cover = rw (given s.source (unnamed _ none)) refl

  run_none : (task : Task) (graph : Text) → asked_run task graph s ≡ None
  run_none task graph = both_none _ _ _ (ap (option_map _) (problem_none task)) refl

  judgement_none : (purpose : Purpose) (graph witness : Text) → asked_judgement purpose graph s witness ≡ None
  judgement_none purpose graph witness = both_none _ _ _ (ap (option_map _) (unnamed _ none)) refl

  check_none : (purpose : Purpose) (graph : Text) → asked_check purpose graph s ≡ None
  check_none purpose graph = both_none _ _ _ (none_of_each (asked_judgement purpose graph s) s.witness (judgement_none purpose graph)) refl

  demo_none : (name : Text) → asked_demo name s ≡ None
  demo_none name = both_none _ _ _ (none_of_each _ _ (λ task. ap (option_and_then _) (problem_none task))) refl

  as_none : (task graph : Text) → asked_as task graph s ≡ None
  as_none task graph =
      both_none (bytes_eq task (codes "check")) _ _ (check_none check graph) (both_none (bytes_eq task (codes "upgrade")) _ _ (check_none upgrade graph)
      (both_none (bytes_eq task (codes "demo")) _ _ (demo_none graph) (none_of_each (λ t. asked_run t graph s) (task_of task) (λ t. run_none t graph))))

  pub asked_unlisted : asked_split s ≡ None
  unfolding asked_split
  asked_unlisted =
      none_of_each _ (settings_asked s) (λ settings. none_of_each _ s.task (λ task. none_of_each (λ graph. asked_as task graph s) s.graph (as_none task)))
