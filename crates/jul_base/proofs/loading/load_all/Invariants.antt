use Rattle.std.proofs.Common.{◌≡◌, ◌+◌, ◌-◌, ◌≤◌, length, true, vec_len}
use Rattle.jul_base.proofs.LoadingLaws.{IsLoading}
use Rattle.jul_base.proofs.loading.load_all.Given as goal

abbrev pub invariant-loop-block : goal.invariant-loop-block
invariant-loop-block g l = record {
  loading : IsLoading (g.F.Shelf.state l.fn.files) (g.F.Shelf.state l.files) l.name l.bytes.items;
  is_open : (g.F.Shelf.state l.files).is_open ≡ true;
  within : vec_len l.bytes ≤ l.most;
  most : l.most ≡ l.limit + 1;
  block : length l.block ≡ 65536;
  faults : (g.F.Shelf.state l.fn.files).faults ≤ (g.F.Shelf.state l.files).faults;
}

abbrev pub decreases-loop-block : goal.decreases-loop-block
decreases-loop-block g l = l.most - vec_len l.bytes
