-- The reading of small witness files and the texts of small results, computed. The places were counted by hand.
use Rattle.std.specs.Prelude.{◌≡◌, ℕ, List, [], ◌∷◌, Some, None, Ok, Err, codes, refl}
use Rattle.std.specs.Fmt.{digits}
use Rattle.jul_base.specs.declared.limits.TheConstants.{NONE}
use Rattle.jul_witness.specs.declared.witnesses.Witness.{Witness}
use Rattle.jul_witness.specs.declared.witnesses.Columns.{Columns}
use Rattle.jul_witness.specs.declared.witnesses.Columns.TheVariants.{Cores, Distances, Cover}
use Rattle.jul_witness.specs.declared.faults.WitnessKind.{WitnessKind}
use Rattle.jul_witness.specs.declared.faults.WitnessKind.TheVariants.{Header, Number, Truncated, Trailing, TooLong, SourceOrder}
use Rattle.jul_witness.specs.Texts.{bare_text, cores_text, distances_text, cover_text}
use Rattle.jul_witness.specs.Reading.{reads_witness}

abbrev is_fault : List ℕ → WitnessKind → ℕ → ℕ → Type 0
is_fault bytes kind token at = reads_witness bytes 1000 ≡ Err (record { kind = kind; token = token; at = at })

abbrev says : List ℕ → Witness → Type 0
says bytes w = reads_witness bytes 1000 ≡ Ok w

-- what a text of version 1 says, and one of version 2 that names no sources
abbrev columns_alone : Columns → Witness
columns_alone columns = record { places = None; sources = None; columns = columns }

abbrev with_places : ℕ → Columns → Witness
with_places m columns = record { places = Some m; sources = None; columns = columns }

abbrev with_sources : ℕ → List ℕ → Columns → Witness
with_sources m sources columns = record { places = Some m; sources = Some sources; columns = columns }

-- ---- faults

empty_file : is_fault [] Truncated 0 0
empty_file = refl

white_alone : is_fault (codes " \n") Truncated 0 2
white_alone = refl

no_word : is_fault (codes " cores 0") Header 0 1
no_word = refl

a_longer_word : is_fault (codes "Covers 0") Header 0 0
a_longer_word = refl

no_count : is_fault (codes "Cover\n") Truncated 1 6
no_count = refl

a_negative_count : is_fault (codes "Cores -1") Number 1 6
a_negative_count = refl

a_dash_as_count : is_fault (codes "Distances - 0") Number 1 10
a_dash_as_count = refl

too_many : is_fault (codes "Cover 16777217") Number 1 6
too_many = refl

as_many_as_may_be : is_fault (codes "Cover 16777216") Truncated 2 14
as_many_as_may_be = refl

no_number : is_fault (codes "Cores 1 x 0") Number 2 8
no_number = refl

no_dash_in_cores : is_fault (codes "Cores 1 - 0") Number 2 8
no_dash_in_cores = refl

no_negative_number : is_fault (codes "Cover 1 0 -1") Number 3 10
no_negative_number = refl

two_dashes : is_fault (codes "Cover 1 -- 0") Number 2 8
two_dashes = refl

none_in_digits : is_fault (codes "Cover 1 18446744073709551615 0") Number 2 8
none_in_digits = refl

missing : is_fault (codes "Distances 1 0 0") Truncated 4 15
missing = refl

trailing : is_fault (codes "Cover 1 - 5 6") Trailing 4 12
trailing = refl

trailing_behind_none : is_fault (codes "Cores 0 x") Trailing 2 8
trailing_behind_none = refl

-- the first of two faults is named
two_faults : is_fault (codes "Cores 2 1 x - 1 1") Number 3 10
two_faults = refl

a_fault_before_the_end : is_fault (codes "Cover 3 x") Number 2 8
a_fault_before_the_end = refl

-- ---- faults in version 2

another_word : is_fault (codes "Cores3 0") Header 0 0
another_word = refl

no_places : is_fault (codes "Cores2 0 ") Truncated 2 9
no_places = refl

a_dash_as_places : is_fault (codes "Cover2 4 - 0") Number 2 9
a_dash_as_places = refl

too_many_places : is_fault (codes "Cores2 4 134217729") Number 2 9
too_many_places = refl

as_many_places_as_may_be : is_fault (codes "Cores2 4 134217728") Truncated 3 18
as_many_places_as_may_be = refl

no_source_count : is_fault (codes "Distances2 0 0") Truncated 3 14
no_source_count = refl

no_source : is_fault (codes "Distances2 4 4 0") Number 3 15
no_source = refl

too_many_sources : is_fault (codes "Distances2 4 4 1025") Number 3 15
too_many_sources = refl

as_many_sources_as_may_be : is_fault (codes "Distances2 4 4 1024") Truncated 4 19
as_many_sources_as_may_be = refl

a_source_too_great : is_fault (codes "Distances2 1 0 1 4294967296 0 0 -") Number 4 17
a_source_too_great = refl

a_dash_as_source : is_fault (codes "Distances2 1 0 1 - 0 0 -") Number 4 17
a_dash_as_source = refl

a_source_missing : is_fault (codes "Distances2 1 0 2 0") Truncated 5 18
a_source_missing = refl

equal_sources : is_fault (codes "Distances2 4 4 2 2 2") SourceOrder 5 19
equal_sources = refl

falling_sources : is_fault (codes "Distances2 4 4 3 0 2 1") SourceOrder 6 21
falling_sources = refl

-- at one token a number comes first
no_number_as_source : is_fault (codes "Distances2 4 4 2 2 x") Number 5 19
no_number_as_source = refl

-- distances stand behind the sources
trailing_behind_sources : is_fault (codes "Distances2 1 0 2 0 7 0 0 - 5") Trailing 9 27
trailing_behind_sources = refl

no_sources_of_cores : is_fault (codes "Cores2 1 0 1 0 1 0") Trailing 5 15
no_sources_of_cores = refl

-- ---- lengths

-- 7 bytes, with a limit one below and at their number
too_long : reads_witness (codes "cores 0") 6 ≡ Err (record { kind = TooLong; token = 0; at = 6 })
too_long = refl

at_the_limit : reads_witness (codes "Cores 0") 7 ≡ Ok (columns_alone (Cores (record { core = []; level = [] })))
at_the_limit = refl

-- ---- values

leading_zeros : says (codes "Cores 01\t007\r\n18446744073709551614 ") (columns_alone (Cores (record { core = 7 ∷ []; level = 18446744073709551614 ∷ [] })))
leading_zeros = refl

three : says (codes "Distances 3 0 0 - 3 2 2 - - -")
    (columns_alone (Distances (record { dist = 0 ∷ 3 ∷ NONE ∷ []; hops = 0 ∷ 2 ∷ NONE ∷ []; parent = NONE ∷ 2 ∷ NONE ∷ [] })))
three = refl

cover : says (codes "Cover 2 0 - - 0") (columns_alone (Cover (record { round = 0 ∷ NONE ∷ []; by = NONE ∷ 0 ∷ [] })))
cover = refl

cores_with_places : says (codes "Cores2 4 7 2 1 2 1 2 1 1 0") (with_places 7 (Cores (record { core = 2 ∷ 2 ∷ 2 ∷ 1 ∷ []; level = 1 ∷ 1 ∷ 1 ∷ 0 ∷ [] })))
cores_with_places = refl

cover_with_places : says (codes "Cover2 2 134217728 0 - - 0") (with_places 134217728 (Cover (record { round = 0 ∷ NONE ∷ []; by = NONE ∷ 0 ∷ [] })))
cover_with_places = refl

one_source : says (codes "Distances2 1 0 1 4294967295 - - -") (with_sources 0 (4294967295 ∷ []) (Distances (record { dist = NONE ∷ []; hops = NONE ∷ []; parent = NONE ∷ [] })))
one_source = refl

two_sources : says (codes "Distances2\n4 4\n2 0 2\n0 0 -\n6 1 2\n0 0 -\n11 2 1\n")
    (with_sources 4 (0 ∷ 2 ∷ []) (Distances (record { dist = 0 ∷ 6 ∷ 0 ∷ 11 ∷ []; hops = 0 ∷ 1 ∷ 0 ∷ 2 ∷ []; parent = NONE ∷ 2 ∷ NONE ∷ 1 ∷ [] })))
two_sources = refl

-- ---- texts

-- a triangle with one vertex hanging on it
triangle : cores_text 8 (record { core = 2 ∷ 2 ∷ 2 ∷ 1 ∷ []; level = 1 ∷ 1 ∷ 1 ∷ 0 ∷ [] }) ≡ codes "Cores2\n4 8\n2 1\n2 1\n2 1\n1 0\n"
unfolding digits cores_text
triangle = refl

no_vertex : cores_text 0 (record { core = []; level = [] }) ≡ codes "Cores2\n0 0\n"
unfolding digits cores_text
no_vertex = refl

from_one : distances_text 3 (0 ∷ []) (record { dist = 0 ∷ 3 ∷ 1 ∷ []; hops = 0 ∷ 2 ∷ 1 ∷ []; parent = NONE ∷ 2 ∷ 0 ∷ [] }) ≡ codes "Distances2\n3 3\n1 0\n0 0 -\n3 2 2\n1 1 0\n"
unfolding digits distances_text
from_one = refl

from_two : distances_text 4 (0 ∷ 2 ∷ []) (record { dist = 0 ∷ 6 ∷ 0 ∷ 11 ∷ []; hops = 0 ∷ 1 ∷ 0 ∷ 2 ∷ []; parent = NONE ∷ 2 ∷ NONE ∷ 1 ∷ [] }) ≡ codes "Distances2\n4 4\n2 0 2\n0 0 -\n6 1 2\n0 0 -\n11 2 1\n"
unfolding digits distances_text
from_two = refl

not_reached : distances_text 0 (1 ∷ []) (record { dist = NONE ∷ 0 ∷ []; hops = NONE ∷ 0 ∷ []; parent = NONE ∷ NONE ∷ [] }) ≡ codes "Distances2\n2 0\n1 1\n- - -\n0 0 -\n"
unfolding digits distances_text
not_reached = refl

two_sets : cover_text 6 (record { round = 0 ∷ 0 ∷ NONE ∷ NONE ∷ NONE ∷ []; by = NONE ∷ NONE ∷ 0 ∷ 0 ∷ 1 ∷ [] }) ≡ codes "Cover2\n5 6\n0 -\n0 -\n- 0\n- 0\n- 1\n"
unfolding digits cover_text
two_sets = refl

bare : bare_text (0 ∷ 13 ∷ NONE ∷ []) ≡ codes "0\n13\n-\n"
unfolding digits bare_text
bare = refl
