use Rattle.std.proofs.Common.{ℕ, List, ◌+◌, arith}
use Rattle.jul_text.specs.Tokens.{Word, tokens}
use Rattle.jul_witness.proofs.ScanningLaws.{column_pushed}
use Rattle.jul_witness.proofs.columns.read_pairs.Goals as goal

pub loop-preserved : goal.loop-preserved
loop-preserved c =
    let ws : List Word = tokens c.args.bytes.now in
    let v : ℕ = c.loop.counter in
    let j : ℕ = c.loop.place.token in
    record {
      clean = c.in_ok-first.ensures.next;
      token = omega (arith, c.loop.invariant.token, c.in_ok-first.ensures.token);
      first = column_pushed c.args.heading ws 2 v 0 j c.in_ok-first.first _ _ c.requires.columns (omega (arith, c.loop.invariant.token)) c.in_ok-first.ensures.first
          c.loop.invariant.first c.in_ok-push.ensures.items;
      second = column_pushed c.args.heading ws 2 v 1 (j + 1) c.in_ok-first.second _ _ c.requires.columns (omega (arith, c.loop.invariant.token)) c.in_ok-first.ensures.second
          c.loop.invariant.second c.in_ok-push-2.ensures.items;
    }
