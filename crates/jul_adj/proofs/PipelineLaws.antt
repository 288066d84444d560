-- A file of which the last blocks that were read aren't taken yet.
use Rattle.std.proofs.Common.{◌≡◌, ℕ, List, ◌++◌, sym, ap}
use Rattle.jul_adj.specs.declared.pipelines.Pipeline.{Pipeline}
use Rattle.jul_adj.specs.Blocks.{bytes_in}
use Rattle.jul_adj.specs.Intakes.{HasTaken}
use Rattle.jul_adj.specs.Pipelines.{HasReadOn}
use Rattle.jul_adj.proofs.BlockLaws.{nothing_more}

-- all was taken but for the block that was read last
pub alone : (bytes : List ℕ) (p : Pipeline) → HasTaken bytes p.intake → p.behind.count ≡ 0 → HasReadOn (bytes ++ bytes_in p.ahead) p
alone bytes p took none = record {
  taken = bytes;
  took = took;
  all = ap (λ xs. xs ++ bytes_in p.ahead) (sym (nothing_more bytes p.behind none));
}
