-- The program's `clap` command, and what it makes of the words.
use Rattle.std.specs.Prelude.{Bool, true, false, List, [], ◌∷◌, Option, Some, None, codes, if◌then◌else◌}
use Rattle.clap.specs.Words.{Kinds, Row, Rule, Text, App, new_rule, new_app, with_rule, first_of, matches_of, fault_of}
use Rattle.jul_query.specs.Splitting.{Split, is_true}
use Rattle.clap.specs.declared.builder.action.ArgAction.TheVariants.{SetTrue}

-- ---- the command

-- an option of one text
abbrev pub option_rule : Text → Rule
option_rule name = record (new_rule name) { long = Some name }

-- a word by its place
abbrev pub positional_rule : Text → Bool → Rule
positional_rule name required = record (new_rule name) { required = required }

abbrev pub flag_rule : Text → Rule
flag_rule name = record (new_rule name) { long = Some name; action = Some SetTrue }

-- a command with no subcommand, with no options for help and version, that is given the words after the program's name
abbrev pub plain_app : App
plain_app = record {
  top = record (new_app (codes "julienne")).top { no_binary_name = true; disable_help_flag = true; disable_version_flag = true };
  subs = [];
}

abbrev pub with_positionals : App → App
with_positionals a =
    with_rule (with_rule (with_rule a
    (positional_rule (codes "task") true))
    (positional_rule (codes "graph") true))
    (positional_rule (codes "witness") false)

-- the options that say how to search
abbrev pub with_search_options : App → App
with_search_options a =
    with_rule (with_rule a
    (option_rule (codes "source")))
    (option_rule (codes "delta"))

-- the options that say how to work
abbrev pub with_work_options : App → App
with_work_options a =
    with_rule (with_rule (with_rule a
    (option_rule (codes "open")))
    (option_rule (codes "workers")))
    (option_rule (codes "chunk"))

-- the options that say which graph to make
abbrev pub with_demo_options : App → App
with_demo_options a =
    with_rule (with_rule (with_rule a
    (option_rule (codes "n")))
    (option_rule (codes "pairs")))
    (option_rule (codes "seed"))

-- the program's command
abbrev pub command_app : App
command_app =
    with_rule (with_demo_options (with_work_options (with_search_options (with_positionals plain_app))))
    (flag_rule (codes "bare"))

-- ---- the words at that command

-- the texts that the command has under its names
abbrev pub split_from : List Row → Split
split_from rows = record {
  task = first_of (codes "task") rows;
  graph = first_of (codes "graph") rows;
  witness = first_of (codes "witness") rows;
  source = first_of (codes "source") rows;
  delta = first_of (codes "delta") rows;
  open_buckets = first_of (codes "open") rows;
  workers = first_of (codes "workers") rows;
  chunk = first_of (codes "chunk") rows;
  n = first_of (codes "n") rows;
  pairs = first_of (codes "pairs") rows;
  seed = first_of (codes "seed") rows;
  bare = is_true (first_of (codes "bare") rows);
}

abbrev pub is_none : Kinds → Bool
is_none [] = true
is_none (k ∷ ks) = false

-- the command takes the words: it finds no fault in them
unfoldable pub is_taken : List Text → Bool
is_taken words = is_none (fault_of command_app words)

-- what the command finds in words that it takes
unfoldable pub rows_at : List Text → List Row
rows_at words = matches_of command_app words

-- the split words, or None where the command doesn't take them
unfoldable pub command_split : List Text → Option Split
command_split words = if is_taken words then Some (split_from (rows_at words)) else None
