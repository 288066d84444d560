-- What a shelf in memory tells.
use Rattle.std.specs.Prelude.{◌≡◌, List, [], ℕ, drop, Option, Some, None, is_some}
use Rattle.jul_base.specs.declared.memory_shelves.MemShelf.{MemShelf}
use Rattle.jul_base.specs.declared.memory_shelves.OpenFile.{OpenFile}
use Rattle.jul_base.specs.Shelves.{ShelfState}
use Rattle.jul_base.specs.Memory.{Stored, files_of, bytes_at, name_at}

-- the bytes of the open file that weren't read yet
abbrev pub left_of : List Stored → Option OpenFile → List ℕ
left_of stored None = []
left_of stored (Some o) = drop o.taken (bytes_at stored o.index)

-- the name at the place that is kept
abbrev pub last_of : List Stored → Option ℕ → Option (List ℕ)
last_of stored None = None
last_of stored (Some i) = name_at stored i

-- a shelf in memory tells everything
abbrev pub shelf_state : MemShelf → ShelfState
shelf_state s = record {
  told = Some (record { files = files_of s.files.items; left = left_of s.files.items s.current; last = last_of s.files.items s.last });
  is_open = is_some s.current;
  faults = s.faults;
}

-- how many calls were made
abbrev pub calls_of : MemShelf → ℕ
calls_of s = s.calls

-- what no call changes: the files, the most bytes of a read, and the calls that fail
pub record HasKept (old new : MemShelf) : Type 0 where
  pub files : new.files ≡ old.files
  pub most : new.most ≡ old.most
  pub fails : new.fails ≡ old.fails
