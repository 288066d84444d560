use Rattle.std.proofs.Common.{◌≡◌, ℕ, List, map, ◌∙◌, ap, subst, arith}
use Rattle.std.specs.List.Sorted.{IsPermutation}
use Rattle.jul_base.specs.Numbers.{below}
use Rattle.jul_check.specs.CoreOrder.{leveled}
use Rattle.jul_check.proofs.CoreOrderLaws.{IsByLevel-from_sort, leveled_more}
use Rattle.jul_check.proofs.core_order.by_level.Goals as goal

pub loop-v-preserved : goal.loop-v-preserved
loop-v-preserved c =
    leveled_more c.args.c.now c.loop-v.v c.get.result c.loop-v.order.items c.push.new.self.items c.in_ok-push.ensures.items c.get.ensures c.loop-v.invariant

pub returns : goal.returns
returns c =
    let all : List (ℕ × ℕ) = map (leveled c.args.c.now) (below c.args.n) in
    let end : c.loop-v.v ≡ c.args.n = omega arith in
    let before : c.loop-v.order.items ≡ all = c.loop-v.invariant ∙ ap (λ n. map (leveled c.args.c.now) (below n)) end in
    let P : List (ℕ × ℕ) → Type 0 = λ l. IsPermutation l c.sort_unstable.new.self.items in
    record {
      order =
          IsByLevel-from_sort c.args.c.now c.args.n c.sort_unstable.new.self.items (subst P before c.sort_unstable.ensures.permutation) c.sort_unstable.ensures.sorted;
    }
