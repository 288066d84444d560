-- What some lists of words ask for, computed.
use Rattle.std.specs.Prelude.{◌≡◌, ℕ, false, List, [], ◌∷◌, Option, Some, None, codes, refl}
use Rattle.std.specs.Bool.{⊤}
use Rattle.std.specs.Str.{chars}
use Rattle.jul_query.specs.Counting.{times, is_counted_twice}
use Rattle.jul_query.specs.Splitting.{read, split}
use Rattle.jul_query.specs.Queries.{graph_file, generated, Problem, distances, cores, cover, Form, whole, bare, summary, Purpose, check, upgrade, solve, judge, Asked}
use Rattle.jul_query.specs.Words.{sources_in, asked, asked_split}

unfoldable on_words : ⊤
unfolding chars split read times is_counted_twice sources_in asked asked_split
on_words = tt

abbrev run_of : List ℕ → Problem → Form → Option Asked
run_of graph problem form = Some (record { input = graph_file graph; work = solve problem form })

abbrev judge_of : Purpose → List ℕ → List ℕ → Option (List ℕ) → Option Asked
judge_of purpose graph witness sources = Some (record { input = graph_file graph; work = judge purpose witness sources })

-- options and positionals are mixed, and a value stands behind `=` or is the next word
mixed : asked (codes "--workers=2" ∷ codes "kcore" ∷ codes "g" ∷ codes "--chunk" ∷ codes "1" ∷ []) ≡ run_of (codes "g") cores whole
unfolding on_words
mixed = refl

twice : asked (codes "kcore" ∷ codes "g" ∷ codes "--chunk" ∷ codes "1" ∷ codes "--chunk" ∷ codes "1" ∷ []) ≡ None
unfolding on_words
twice = refl

-- the word behind an option's name isn't counted, here as the second `--chunk`
skipped : is_counted_twice (codes "--chunk" ∷ codes "--chunk" ∷ []) ≡ false
unfolding on_words
skipped = refl

leading_zeros : asked (codes "wbfs" ∷ codes "g" ∷ codes "--source" ∷ codes "007" ∷ []) ≡ run_of (codes "g") (distances (7 ∷ [])) whole
unfolding on_words
leading_zeros = refl

-- the greatest source, and one above it
greatest_source : asked (codes "wbfs" ∷ codes "g" ∷ codes "--source" ∷ codes "4294967295" ∷ []) ≡ run_of (codes "g") (distances (4294967295 ∷ [])) whole
unfolding on_words
greatest_source = refl

-- a list of sources: each number once, in order
distinct_sources : asked (codes "wbfs" ∷ codes "g" ∷ codes "--source" ∷ codes "2,0,02" ∷ []) ≡ run_of (codes "g") (distances (0 ∷ 2 ∷ [])) whole
unfolding on_words
distinct_sources = refl

-- an empty part of a list is no number
empty_part : asked (codes "wbfs" ∷ codes "g" ∷ codes "--source" ∷ codes "0,,1" ∷ []) ≡ None
unfolding on_words
empty_part = refl

empty_list : asked (codes "wbfs" ∷ codes "g" ∷ codes "--source=" ∷ []) ≡ None
unfolding on_words
empty_list = refl

last_part_empty : sources_in (codes "1,") ≡ None
unfolding on_words
last_part_empty = refl

above_the_greatest : asked (codes "wbfs" ∷ codes "g" ∷ codes "--source" ∷ codes "4294967296" ∷ []) ≡ None
unfolding on_words
above_the_greatest = refl

-- behind `--` each word is a positional
behind_two_dashes : asked (codes "check" ∷ codes "--" ∷ codes "--bare" ∷ codes "-g" ∷ []) ≡ judge_of check (codes "--bare") (codes "-g") None
unfolding on_words
behind_two_dashes = refl

-- a value doesn't begin with a minus sign
minus_one : asked (codes "wbfs" ∷ codes "g" ∷ codes "--source" ∷ codes "-1" ∷ []) ≡ None
unfolding on_words
minus_one = refl

attached_minus_one : asked (codes "wbfs" ∷ codes "g" ∷ codes "--source=-1" ∷ []) ≡ None
unfolding on_words
attached_minus_one = refl

-- an empty word is a positional
empty_name : asked (codes "kcore" ∷ [] ∷ []) ≡ run_of [] cores whole
unfolding on_words
empty_name = refl

value_of_two_dashes : asked (codes "wbfs" ∷ codes "g" ∷ codes "--source" ∷ codes "--" ∷ []) ≡ None
unfolding on_words
value_of_two_dashes = refl

delta_is_required : asked (codes "delta" ∷ codes "g" ∷ []) ≡ None
unfolding on_words
delta_is_required = refl

delta_is_for_delta : asked (codes "wbfs" ∷ codes "g" ∷ codes "--delta" ∷ codes "1" ∷ []) ≡ None
unfolding on_words
delta_is_for_delta = refl

no_such_demo : asked (codes "demo" ∷ codes "peel" ∷ codes "--n" ∷ codes "1" ∷ codes "--pairs" ∷ codes "0" ∷ codes "--seed" ∷ codes "0" ∷ []) ≡ None
unfolding on_words
no_such_demo = refl

demo_of_delta : asked (codes "demo" ∷ codes "delta" ∷ codes "--delta" ∷ codes "5" ∷ codes "--n" ∷ codes "5" ∷ codes "--pairs" ∷ codes "0" ∷ codes "--seed" ∷ codes "0" ∷ [])
    ≡ Some (record { input = generated 5 0 0; work = solve (distances (0 ∷ [])) (summary (codes "delta")) })
unfolding on_words
demo_of_delta = refl

no_words : asked [] ≡ None
unfolding on_words
no_words = refl

four_positionals : asked (codes "check" ∷ codes "g" ∷ codes "w" ∷ codes "x" ∷ []) ≡ None
unfolding on_words
four_positionals = refl

two_standard_inputs : asked (codes "check" ∷ codes "-" ∷ codes "-" ∷ []) ≡ None
unfolding on_words
two_standard_inputs = refl

one_standard_input : asked (codes "check" ∷ codes "-" ∷ codes "w" ∷ codes "--source" ∷ codes "3" ∷ []) ≡ judge_of check (codes "-") (codes "w") (Some (3 ∷ []))
unfolding on_words
one_standard_input = refl

upgraded : asked (codes "upgrade" ∷ codes "g" ∷ codes "-" ∷ []) ≡ judge_of upgrade (codes "g") (codes "-") None
unfolding on_words
upgraded = refl

upgraded_by_sources : asked (codes "upgrade" ∷ codes "g" ∷ codes "w" ∷ codes "--source=5,3" ∷ []) ≡ judge_of upgrade (codes "g") (codes "w") (Some (3 ∷ 5 ∷ []))
unfolding on_words
upgraded_by_sources = refl

upgrade_of_two_standard_inputs : asked (codes "upgrade" ∷ codes "-" ∷ codes "-" ∷ []) ≡ None
unfolding on_words
upgrade_of_two_standard_inputs = refl

upgrade_without_a_witness : asked (codes "upgrade" ∷ codes "g" ∷ []) ≡ None
unfolding on_words
upgrade_without_a_witness = refl

bare_upgrade : asked (codes "upgrade" ∷ codes "g" ∷ codes "w" ∷ codes "--bare" ∷ []) ≡ None
unfolding on_words
bare_upgrade = refl

no_demo_of_upgrade : asked (codes "demo" ∷ codes "upgrade" ∷ codes "--n" ∷ codes "1" ∷ codes "--pairs" ∷ codes "0" ∷ codes "--seed" ∷ codes "0" ∷ []) ≡ None
unfolding on_words
no_demo_of_upgrade = refl

bare_cover : asked (codes "--bare" ∷ codes "cover" ∷ codes "-" ∷ []) ≡ run_of (codes "-") cover bare
unfolding on_words
bare_cover = refl

bare_with_a_value : asked (codes "--bare=true" ∷ codes "cover" ∷ codes "-" ∷ []) ≡ None
unfolding on_words
bare_with_a_value = refl

no_abbreviation : asked (codes "wbfs" ∷ codes "g" ∷ codes "--sour" ∷ codes "0" ∷ []) ≡ None
unfolding on_words
no_abbreviation = refl

no_help : asked (codes "--help" ∷ []) ≡ None
unfolding on_words
no_help = refl
