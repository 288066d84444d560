use Rattle.std.proofs.Common.{◌≡◌, ◌-◌, ◌^◌, ℕ, false, List, ◌+◌, ◌++◌, ◌∷◌, [], sym, ◌∙◌, subst, ap, arith}
use Rattle.std.specs.List.Sorted.{IsStrictlyIncreasing}
use Rattle.jul_text.specs.Tokens.{Word, tokens}
use Rattle.jul_text.specs.Scanning.{text_at}
use Rattle.jul_witness.specs.Roles.{said_source, number_of}
use Rattle.jul_witness.proofs.RoleLaws.{said_is}
use Rattle.jul_witness.proofs.SourceLaws.{AreBelow, source_ruled, source_read, least_next, sources_push, below_push, increasing_push}
use Rattle.jul_witness.proofs.heads.read_increasing.Goals as goal

pub next_value-requires-clause-ruled : goal.next_value-requires-clause-ruled
next_value-requires-clause-ruled c =
    source_ruled c.args.heading (tokens c.args.bytes.now) c.loop.counter c.loop.place.token c.loop.least c.source.result
    c.requires.named (omega (arith, c.requires.count, c.loop-test.true)) c.loop.invariant.token c.loop.invariant.least c.source.ensures

pub overflow_cast-value : goal.overflow_cast-value
overflow_cast-value c =
    omega (arith, (source_read c.loop.least c.source.result (text_at (tokens c.args.bytes.now) c.loop.place.token) c.in_ok-value.value c.source.ensures c.in_ok-value.ensures.value c.in_ok-value.ensures.least).within)

pub loop-preserved : goal.loop-preserved
loop-preserved c =
    let ws : List Word = tokens c.args.bytes.now in
    let i : ℕ = c.loop.counter in
    let x : ℕ = c.in_ok-value.value in
    let xs : List ℕ = c.loop.sources.items in
    let read = source_read c.loop.least c.source.result (text_at ws c.loop.place.token) x c.source.ensures c.in_ok-value.ensures.value c.in_ok-value.ensures.least in
    let value : said_source ws i ≡ x = said_is (2 ^ 32 - 1) ws (4 + i) x (ap (λ (j : ℕ). number_of false (2 ^ 32 - 1) (text_at ws j)) (sym c.loop.invariant.token) ∙ read.number) in
    let pushed : xs ++ x ∷ [] ≡ c.push.new.self.items = sym c.in_ok-push.ensures.items in
    record {
      clean = c.in_ok-value.ensures.next;
      token = omega (arith, c.loop.invariant.token, c.in_ok-value.ensures.token);
      sources = sym pushed ∙ ap (λ (ys : List ℕ). ys ++ x ∷ []) c.loop.invariant.sources ∙ sources_push ws i x value;
      least = ap (λ (y : ℕ). y + 1) (sym value) ∙ sym (least_next ws i);
      increasing = subst IsStrictlyIncreasing pushed (increasing_push xs x c.loop.least c.loop.invariant.increasing c.loop.invariant.under read.high);
      under = subst (λ (ys : List ℕ). AreBelow ys (x + 1)) pushed (below_push xs x c.loop.least c.loop.invariant.under read.high);
    }
