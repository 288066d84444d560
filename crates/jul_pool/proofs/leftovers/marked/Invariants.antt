use Rattle.std.proofs.Common.{◌≡◌, ℕ, ◌<◌, false, length, map, take, slice_index_or, nat_lt}
use Rattle.jul_base.specs.Times.{times}
use Rattle.jul_pool.proofs.leftovers.marked.Given as goal

abbrev pub invariant-loop-chunk : goal.invariant-loop-chunk
invariant-loop-chunk g l = record {
  len : length l.marks.items ≡ l.chunks;
  marks : (x : ℕ) → x < l.chunks → slice_index_or l.marks.items x false ≡ nat_lt 0 (times x (map (λ p. p.0) (take l.chunk-index l.done)));
}
