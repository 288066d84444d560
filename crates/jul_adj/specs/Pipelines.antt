-- A file of which the last blocks that were read aren't taken yet.
use Rattle.std.specs.Prelude.{◌≡◌, ℕ, ◌+◌, ◌≤◌, ◌++◌, List}
use Rattle.jul_adj.specs.declared.pipelines.Pipeline.{Pipeline}
use Rattle.jul_adj.specs.Blocks.{bytes_in, IsBlock}
use Rattle.jul_adj.specs.Intakes.{HasTaken}

-- these bytes were read: those that were taken, and those of two blocks
pub record HasReadOn (bytes : List ℕ) (p : Pipeline) : Type 0 where
  pub taken : List ℕ
  pub took : HasTaken taken p.intake
  pub all : bytes ≡ (taken ++ bytes_in p.behind) ++ bytes_in p.ahead

-- both blocks are whole, and the one ahead is no longer than a block may be
pub record AreBlocks (p : Pipeline) : Type 0 where
  pub behind : IsBlock p.behind
  pub ahead : IsBlock p.ahead
  pub small : p.ahead.count ≤ 4194304

-- how many bytes were read
abbrev pub bytes_read : Pipeline → ℕ
bytes_read p = (p.intake.feeder.fed + p.behind.count) + p.ahead.count

-- the block ahead was read behind all that was read before
pub record HasAdvanced (old new : Pipeline) : Type 0 where
  pub read : (bytes : List ℕ) → HasReadOn bytes old → HasReadOn (bytes ++ bytes_in new.ahead) new
  pub blocks : AreBlocks new
  pub count : bytes_read new ≡ bytes_read old + new.ahead.count
