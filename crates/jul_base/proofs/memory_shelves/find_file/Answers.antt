use Rattle.std.proofs.Common.{◌≡◌, Some, true, ap, sym, ◌∙◌, arith}
use Rattle.std.specs.Str.{bytes_eq}
use Rattle.std.proofs.lemmas.Slice.Eq.{bytes_eq-Decides}
use Rattle.jul_base.proofs.MemoryLaws.{contents-found, name_at-found}
use Rattle.jul_base.proofs.memory_shelves.find_file.Goals as goal

pub returns-then-eq-clause-found : goal.returns-then-eq-clause-found
returns-then-eq-clause-found c =
    contents-found c.args.files.now.items c.loop-i.i c.index.result.now c.args.name.now (omega (arith, c.len-i-end.ensures, c.loop-i-test.true)) c.index.ensures
    (ap (λ b. bytes_eq b c.args.name.now) (sym c.as_str.ensures.value) ∙ sym c.eq.ensures ∙ c.if-eq.true) c.loop-i.invariant

pub returns-then-eq-clause-named : goal.returns-then-eq-clause-named
returns-then-eq-clause-named c =
    let same : bytes_eq c.as_str.result.now c.args.name.now ≡ true = sym c.eq.ensures ∙ c.if-eq.true in
    name_at-found c.args.files.now.items c.loop-i.i c.index.result.now (omega (arith, c.len-i-end.ensures, c.loop-i-test.true)) c.index.ensures
    ∙ ap Some (sym c.as_str.ensures.value ∙ (bytes_eq-Decides c.as_str.result.now c.args.name.now).0 same)
