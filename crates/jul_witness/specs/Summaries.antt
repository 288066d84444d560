-- Summaries of results: one line of a few numbers.
use Rattle.std.specs.Prelude.{ℕ, Bool, not, List, ◌++◌, max, codes, decimal, count_by, ◌==◌}
use Rattle.std.specs.List.{filter, fold}
use Rattle.jul_base.specs.declared.limits.TheConstants.{NONE}

-- the greatest of the numbers, 0 where there are none
abbrev pub greatest : List ℕ → ℕ
greatest xs = fold max 0 xs

abbrev pub times_in : List ℕ → ℕ → ℕ
times_in xs x = count_by (λ y. y == x) xs

abbrev pub is_number : ℕ → Bool
is_number x = not (x == NONE)

-- the numbers of a column, without the vertices that have none
abbrev pub numbers_of : List ℕ → List ℕ
numbers_of column = filter is_number column

abbrev pub number_count : List ℕ → ℕ
number_count column = count_by is_number column

-- ` name value`
abbrev pub named_number : List ℕ → ℕ → List ℕ
named_number name value = codes " " ++ name ++ codes " " ++ decimal value

-- the name of a task, the sizes of the graph, and two numbers with their names
abbrev pub summary_line : List ℕ → ℕ → ℕ → List ℕ → ℕ → List ℕ → ℕ → List ℕ
summary_line task n m first a second b =
    task ++ named_number (codes "n") n ++ named_number (codes "m") m ++ named_number first a ++ named_number second b ++ codes "\n"

-- the greatest core, and how many vertices have it
unfoldable pub cores_summary : List ℕ → ℕ → ℕ → List ℕ → List ℕ
cores_summary task n m core = summary_line task n m (codes "max") (greatest core) (codes "top") (times_in core (greatest core))

-- how many vertices are reached, and the greatest distance among them
unfoldable pub distances_summary : List ℕ → ℕ → ℕ → List ℕ → List ℕ
distances_summary task n m dist =
    summary_line task n m (codes "reached") (number_count dist) (codes "max") (greatest (numbers_of dist))

-- how many sets are chosen, and how many elements are covered
unfoldable pub cover_summary : List ℕ → ℕ → ℕ → List ℕ → List ℕ → List ℕ
cover_summary task n m round by = summary_line task n m (codes "chosen") (number_count round) (codes "covered") (number_count by)
