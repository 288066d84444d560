-- A graph file that is read from a shelf.
use Rattle.std.specs.Prelude.{◌≡◌, ℕ, ◌+◌, List, Some, Result, Err, IfSome}
use Rattle.std.specs.Option.{option_map}
use Rattle.jul_base.specs.declared.graphs.RawGraph.{RawGraph}
use Rattle.jul_base.specs.Shelves.{ShelfState, contents, after_open, after_read}
use Rattle.jul_base.specs.Loading.{FailedLoading, StoppedLoading}
use Rattle.jul_adj.specs.declared.faults.Fault.{Fault}
use Rattle.jul_adj.specs.declared.faults.StreamError.{StreamError}
use Rattle.jul_adj.specs.declared.faults.StreamError.TheVariants.{Failed, Bad, Memory}
use Rattle.jul_adj.specs.Reading.{reads}

-- the whole file of the name says this, where the shelf tells its files. It was opened, and its first limit + 1 bytes
-- were read: all, unless it is too long
pub record IsStreamed (old new : ShelfState) (name : List ℕ) (limit : ℕ) (said : Result RawGraph Fault) : Type 0 where
  pub file : List ℕ
  pub there : IfSome old.told (λ t. contents t.files name ≡ Some file)
  pub is : reads file limit ≡ said
  pub rest : new.told ≡ option_map (λ t. after_read (limit + 1) (after_open name t)) old.told

-- why no graph was read
abbrev pub IsUnread : ShelfState → ShelfState → List ℕ → ℕ → StreamError → Type 0
IsUnread old new name limit Failed = FailedLoading old new name
IsUnread old new name limit (Bad fault) = IsStreamed old new name limit (Err fault)
IsUnread old new name limit Memory = StoppedLoading old new name
