use Rattle.std.proofs.Common.{ℕ, ◌-◌, ◌<◌, length, get_or, refl, ◌∙◌, arith}
use Rattle.std.proofs.lemmas.List.{length-set}
use Rattle.jul_rows.proofs.TallyLaws.{IsTallyOf-less, tally-some}
use Rattle.jul_rows.proofs.tally.Counts.uncount.Goals as goal

pub overflow_sub-index_mut : goal.overflow_sub-index_mut
overflow_sub-index_mut c =
    let i : ℕ = c.loop-v.v-index in
    let w : ℕ = get_or c.args.list.now i 0 in
    let in_range : w < length c.loop-v.self-inside.counts.items = omega (arith, c.requires.in_range i 0 c.loop-v-test.true, c.loop-v.invariant.size) in
    tally-some c.args.list.now c.loop-v.self-inside.counts.items i w c.index_mut.result.now c.loop-v.invariant.counted c.loop-v-test.true refl in_range c.index_mut.ensures.value

pub loop-v-preserved : goal.loop-v-preserved
loop-v-preserved c =
    let i : ℕ = c.loop-v.v-index in
    let w : ℕ = get_or c.args.list.now i 0 in
    let in_range : w < length c.loop-v.self-inside.counts.items = omega (arith, c.requires.in_range i 0 c.loop-v-test.true, c.loop-v.invariant.size) in
    record {
      counted =
          IsTallyOf-less c.args.list.now c.loop-v.self-inside.counts.items i w c.index_mut.result.now c.loop-v.invariant.counted c.loop-v-test.true refl in_range c.index_mut.ensures.value;
      size = length-set c.loop-v.self-inside.counts.items w (c.index_mut.result.now - 1) ∙ c.loop-v.invariant.size;
    }
