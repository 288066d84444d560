use Rattle.std.proofs.Common.{refl, arith}
use Rattle.jul_adj.proofs.StepLaws.{truncated, whole, all_are, clear_at}
use Rattle.jul_adj.proofs.ReadingLaws.{made}
use Rattle.jul_adj.proofs.readings.Reading.finish.Goals as goal
use Rattle.jul_adj.proofs.readings.Reading.finish.Goals.{then-self-lt3-via-then-self-lt3, then-self-lt3-via-else-self-lt3+then-self-all_tokens}

pub returns-then-self-lt3 : goal.returns-then-self-lt3
returns-then-self-lt3 c ws h =
    let clear = clear_at ws _ c.args.self c.in_default.is h in
    elim c.then-self-lt3.branch [
      | then-self-lt3-via-then-self-lt3 w ↦ truncated ws c.args.len c.args.self c.in_default.is h (omega (arith, w.if-self-lt3.true))
      | then-self-lt3-via-else-self-lt3+then-self-all_tokens w ↦
          truncated ws c.args.len c.args.self c.in_default.is h
          (omega (arith, w.if-self-all_tokens.true, w.all_tokens.ensures.value, all_are ws _ c.args.self.sizes c.args.self.lists clear.1 (omega (arith, clear.0, w.if-self-lt3.false))))
    ]

pub returns : goal.returns
returns c ws h =
    let clear = clear_at ws _ c.args.self c.in_default.is h in
    whole ws c.args.len c.args.self _ c.in_default.is h
    (omega (arith, c.if-self-all_tokens.false, c.all_tokens.ensures.value, all_are ws _ c.args.self.sizes c.args.self.lists clear.1 (omega (arith, clear.0, c.if-self-lt3.false))))
    c.if-self-lt3.false
    (made _ _ _ _ _ _ _ _ refl c.from_vec.ensures c.from_vec-2.ensures c.from_vec-3.ensures)
