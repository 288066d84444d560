-- What contracts see of a shelf of files, and what its calls change.
use Rattle.std.specs.Prelude.{◌≡◌, ℕ, ◌<◌, ◌≤◌, ◌++◌, List, [], ◌∷◌, length, take, drop, Option, Some, None, Bool, if◌then◌else◌}
use Rattle.std.specs.Option.{option_map, unwrap_or, IsSomeAnd}
use Rattle.std.specs.Str.{bytes_eq}

-- a file: its name and its bytes
pub record File : Type 0 where
  pub name : List ℕ
  pub bytes : List ℕ

-- the bytes of the first file of a name, if a file has it
abbrev pub contents : List File → List ℕ → Option (List ℕ)
contents [] name = None
contents (f ∷ fs) name = if bytes_eq f.name name then Some f.bytes else contents fs name

-- what a shelf tells that tells its files: the files, the bytes of the open one that weren't read yet,
-- and the name that was opened last, if a file has it
pub record Told : Type 0 where
  pub files : List File
  pub left : List ℕ
  pub last : Option (List ℕ)

pub record ShelfState : Type 0 where
  pub told : Option Told
  pub is_open : Bool
  pub faults : ℕ

-- the name, if a file has it
abbrev pub known_name : List File → List ℕ → Option (List ℕ)
known_name files name = option_map (λ _. name) (contents files name)

-- the whole file of the name is left
abbrev pub after_open : List ℕ → Told → Told
after_open name t = record t { left = unwrap_or (contents t.files name) []; last = known_name t.files name }

-- no file is open
abbrev pub after_failed_open : List ℕ → Told → Told
after_failed_open name t = record t { left = []; last = known_name t.files name }

-- the first n bytes that were left have been read
abbrev pub after_read : ℕ → Told → Told
after_read n t = record t { left = drop n t.left }

-- the shelf tells its files, and none has the name
abbrev pub IsMissing : ShelfState → List ℕ → Type 0
IsMissing s name = IsSomeAnd s.told (λ t. contents t.files name ≡ None)

-- the first n bytes left stand in front of the buffer; there are none exactly at the end
pub record Moves (t : Told) (n : ℕ) (old new : List ℕ) : Type 0 where
  pub prefix : n ≤ length t.left
  pub moved : new ≡ take n t.left ++ drop n old
  pub end : 0 < length old → n ≡ 0 → t.left ≡ []

abbrev pub files_and_last : Option Told → Option (List File × Option (List ℕ))
files_and_last told = option_map (λ t. (t.files, t.last)) told
