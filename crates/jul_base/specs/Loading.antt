-- What the loading of a file leaves of the shelf.
use Rattle.std.specs.Prelude.{◌≡◌, ◌⊎◌, ℕ, List, [], take, Some, IfSome}
use Rattle.std.specs.Option.{option_map, unwrap_or}
use Rattle.jul_base.specs.Sinks.{Rose}
use Rattle.jul_base.specs.Shelves.{ShelfState, Told, IsMissing, contents, after_open, after_read, files_and_last}

-- the bytes of a name, and none where no file has it
abbrev pub bytes_of : Told → List ℕ → List ℕ
bytes_of t name = unwrap_or (contents t.files name) []

-- the first most bytes of the file were read, and the rest is left
pub record IsLoaded (old new : ShelfState) (name bytes : List ℕ) (most : ℕ) : Type 0 where
  pub there : IfSome old.told (λ t. contents t.files name ≡ Some (bytes_of t name))
  pub first_bytes : IfSome old.told (λ t. bytes ≡ take most (bytes_of t name))
  pub rest : new.told ≡ option_map (λ t. after_read most (after_open name t)) old.told

-- the shelf failed, or no file has the name
pub record FailedLoading (old new : ShelfState) (name : List ℕ) : Type 0 where
  pub cause : Rose old.faults new.faults ⊎ IsMissing old name
  pub last : files_and_last new.told ≡ files_and_last (option_map (after_open name) old.told)

-- memory ran out before or after the file was opened
abbrev pub StoppedLoading : ShelfState → ShelfState → List ℕ → Type 0
StoppedLoading old new name =
    (files_and_last new.told ≡ files_and_last old.told) ⊎ (files_and_last new.told ≡ files_and_last (option_map (after_open name) old.told))
