-- Blocks of a file.
use Rattle.std.proofs.Common.{◌≡◌, List, ℕ, [], ◌++◌, take, ◌∙◌, ap}
use Rattle.std.proofs.lemmas.List.{append-nil}
use Rattle.jul_adj.specs.declared.blocks.Block.{Block}
use Rattle.jul_adj.specs.Blocks.{bytes_in}

pub no_bytes : (b : Block) → b.count ≡ 0 → bytes_in b ≡ []
no_bytes b none = ap (λ k. take k b.room.items) none

-- a read that brought nothing
pub nothing_more : (bytes : List ℕ) (b : Block) → b.count ≡ 0 → bytes ++ bytes_in b ≡ bytes
nothing_more bytes b none = ap (λ xs. bytes ++ xs) (no_bytes b none) ∙ append-nil bytes
