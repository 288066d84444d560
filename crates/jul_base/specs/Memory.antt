-- Files and sinks in memory.
use Rattle.std.specs.Prelude.{ℕ, ◌+◌, List, [], map, min, Bool, slice_get, Option, Vec, String, string_bytes, ◌==◌}
use Rattle.std.specs.Global.{Global}
use Rattle.std.specs.Option.{option_map, unwrap_or}
use Rattle.std.specs.List.{list_any}
use Rattle.jul_base.specs.Shelves.{File}

-- the number of the next call, from 1 on; it stands still at the end of its type
abbrev pub call_after : ℕ → ℕ
call_after calls = min (calls + 1) 18446744073709551615

abbrev pub is_listed : List ℕ → ℕ → Bool
is_listed numbers n = list_any (λ y. y == n) numbers

abbrev pub Stored : Type 0
Stored = String Global × Vec ℕ Global

abbrev pub file_of : Stored → File
file_of f = record { name = string_bytes f.0; bytes = f.1.items }

abbrev pub files_of : List Stored → List File
files_of stored = map file_of stored

abbrev pub bytes_at : List Stored → ℕ → List ℕ
bytes_at stored i = unwrap_or (option_map (λ f. f.1.items) (slice_get stored i)) []

abbrev pub name_at : List Stored → ℕ → Option (List ℕ)
name_at stored i = option_map (λ f. string_bytes f.0) (slice_get stored i)
