use Rattle.std.proofs.Common.{◌≡◌, ℕ, ◌+◌, ◌-◌, ◌≤◌, length, refl, sym, subst, arith}
use Rattle.jul_adj.specs.Rules.{AreRuled}
use Rattle.jul_adj.specs.Storing.{AreMarks}
use Rattle.jul_adj.specs.Readings.{IsClear, IsPart, HasRead}
use Rattle.jul_adj.specs.Values.{AreValues}
use Rattle.jul_adj.proofs.ValueLaws.{count_of, values_met}
use Rattle.jul_adj.proofs.StepLaws.{clear_at, clear_now, part_less, ruled_fewer, rows_read}
use Rattle.jul_adj.proofs.readings.Reading.take_values.Goals as goal

pub returns-clause-taken : goal.returns-clause-taken
returns-clause-taken c ws token marks h are have taken =
    let r = c.args.self.now in
    let n : ℕ = length c.args.values.now in
    let size : length marks ≡ n = count_of marks c.args.values.now have in
    let found = clear_at ws token r c.in_default.is h in
    let same : r.token ≡ token = found.0 in
    let clear : IsClear ws r.token r.sizes r.lists = subst (λ t. IsClear ws t r.sizes r.lists) (sym same) found.1 in
    let marks' : AreMarks ws r.token marks = subst (λ t. AreMarks ws t marks) (sym same) are in
    let fits : n ≤ c.in-Some-next_part.end - r.token = omega (arith, c.if-more-values.false) in
    let ruled : AreRuled ws r.token n c.in-Some-next_part.rule = ruled_fewer ws r.token (c.in-Some-next_part.end - r.token) n c.in-Some-next_part.rule fits (c.in-Some-next_part.ensures.ruled ws clear) in
    let part : IsPart ws c.in-Some-next_part.rule r.token (r.token + n) = part_less ws c.in-Some-next_part.rule r.token c.in-Some-next_part.end (r.token + n) (c.in-Some-next_part.ensures.part ws clear) (omega (arith, fits, c.in-Some-next_part.ensures.ahead)) in
    let values : AreValues ws r.token c.args.values.now = values_met ws r.token c.in-Some-next_part.rule marks c.args.values.now marks' have ruled c.in-Some-next_part.ensures.small (c.admits.ensures c.if-not-admits.false) in
    let read : IsClear ws (r.token + n) r.sizes c.append.new.self =
    rows_read ws r.token n r.sizes r.lists c.append.new.self clear (omega (arith, c.if-self-lt3.false)) (omega (arith, marks'.there, size)) values.none (c.in_ok-append.ensures ws r.token values part clear.lists) in
    let on : r.token + n ≡ token + length marks = omega (arith, same, size) in
    subst (λ t. HasRead ws t (record { token = r.token + n; fault = r.fault; sizes = r.sizes; lists = c.append.new.self })) on (clear_now ws (r.token + n) (r.token + n) r.sizes c.append.new.self r.fault c.in_default.is refl read)
