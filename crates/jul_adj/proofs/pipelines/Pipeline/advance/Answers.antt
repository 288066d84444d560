use Rattle.std.proofs.Common.{arith}
use Rattle.std.proofs.lemmas.Result.{on_ok_weaker}
use Rattle.jul_adj.proofs.PipelineLaws.{alone}
use Rattle.jul_adj.proofs.pipelines.Pipeline.advance.Goals as goal

pub returns-in_default-clause-advanced : goal.returns-in_default-clause-advanced
returns-in_default-clause-advanced g c =
    let took = c.in_ok-take_all.ensures in
    on_ok_weaker c.fill.result (λ ahead. record {
      read = λ bytes h. alone bytes _ (took.taken bytes h) took.empty;
      blocks = record { behind = took.behind; ahead = ahead.block; small = omega (arith, ahead.read.few, c.requires.few) };
      count = omega (arith, took.count, took.empty);
    }) c.fill.ensures.read
