-- Blocks of a file, and the numbers that threads have read of them.
use Rattle.std.specs.Prelude.{◌≡◌, ℕ, ◌<◌, ◌≤◌, ◌++◌, List, length, take, slice_range, true, Result, IfSome, IfErr}
use Rattle.std.specs.Option.{option_map}
use Rattle.jul_base.specs.Sinks.{Rose}
use Rattle.jul_base.specs.Shelves.{ShelfState, Moves, after_read, files_and_last}
use Rattle.jul_text.specs.Cuts.{IsWhiteSpan, AreCutPoints}
use Rattle.jul_adj.specs.declared.faults.StreamError.{StreamError}
use Rattle.jul_adj.specs.declared.faults.StreamError.TheVariants.{Failed, Bad, Memory}
use Rattle.jul_adj.specs.declared.blocks.Numbers.{Numbers}
use Rattle.jul_adj.specs.declared.blocks.Block.{Block}
use Rattle.jul_adj.specs.Cutting.{AreCutsRead}

-- what lies between the first and the last white byte
abbrev pub middle_of : List ℕ → Numbers → List ℕ
middle_of bytes n = slice_range bytes n.first n.last

-- what was read of each cut of what lies between the first and the last white byte
pub record AreNumbersOf (bytes : List ℕ) (n : Numbers) : Type 0 where
  pub span : IsWhiteSpan bytes n.first n.last
  pub some : 0 < length n.cuts.items
  pub points : AreCutPoints (middle_of bytes n) (length n.cuts.items) n.points.items
  pub read : AreCutsRead (middle_of bytes n) n.points.items (length n.cuts.items) n.bound n.cuts.items

-- the bytes of a block
abbrev pub bytes_in : Block → List ℕ
bytes_in b = take b.count b.room.items

-- the room has all bytes of the block, and the numbers are theirs
pub record IsBlock (b : Block) : Type 0 where
  pub within : b.count ≤ length b.room.items
  pub numbers : IfSome b.numbers (AreNumbersOf (bytes_in b))

-- one read of an open file, asked for at most so many bytes, brought this many to the front of a room
pub record IsReadOn (old new : ShelfState) (most count : ℕ) (room : List ℕ) : Type 0 where
  pub asked : List ℕ
  pub answer : List ℕ
  pub more : List ℕ
  pub some : 0 < length asked
  pub moves : IfSome old.told (λ t. Moves t count asked answer)
  pub told : new.told ≡ option_map (after_read count) old.told
  pub within : count ≤ length answer
  pub are : take count room ≡ take count (answer ++ more)
  pub few : count ≤ most
  pub is_open : new.is_open ≡ true

-- the block is whole, and has what such a read brought
pub record IsReadBlock (old new : ShelfState) (most : ℕ) (b : Block) : Type 0 where
  pub block : IsBlock b
  pub read : IsReadOn old new most b.count b.room.items

-- why a block was not read: the shelf failed, or memory ran out
abbrev pub IsStopped : ShelfState → ShelfState → StreamError → Type 0
IsStopped old new Failed = Rose old.faults new.faults
IsStopped old new (Bad fault) = ⊥
IsStopped old new Memory = Unit {0}

-- what a read leaves of a shelf, also one that was refused: its files, the file opened last, its faults so far
pub record IsLeft {Y : Type 0} (old new : ShelfState) (result : Result Y StreamError) : Type 0 where
  pub stopped : IfErr result (IsStopped old new)
  pub kept : files_and_last new.told ≡ files_and_last old.told
  pub faults : old.faults ≤ new.faults
