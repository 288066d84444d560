use Rattle.std.proofs.Common.{◌≡◌, ℕ, ◌+◌, ◌-◌, ◌<◌, ◌≤◌, length, get_or, sym, ap, ◌∙◌, arith}
use Rattle.jul_adj.specs.Roles.{value_at, first_target, said_places}
use Rattle.jul_adj.proofs.StepLaws.{ruled_offsets, last_offset, offsets_count}
use Rattle.jul_adj.proofs.readings.Reading.next_offset.Goals as goal

pub returns-in-Some-clause-ruled : goal.returns-in-Some-clause-ruled
returns-in-Some-clause-ruled c ws clear =
    let token : ℕ = c.args.self.now.token in
    let s = c.args.self.now.sizes in
    let l = c.args.self.now.lists in
    let vertices = clear.sizes.vertices (omega (arith, c.requires.start)) in
    let high : token ≤ first_target ws = omega (arith, vertices, c.requires.offset) in
    let count : length l.offsets.items + 3 ≡ token = offsets_count ws token s l clear (omega (arith, c.requires.start)) high in
    let items : c.deref.result.now ≡ l.offsets.items = c.deref.ensures.value in
    let some : 0 < length c.deref.result.now = c.in-Some.ensures.item.3.0 in
    let later : 3 < token = omega (arith, count, some, ap length items) in
    let before : c.in-Some.before.now ≡ value_at ws (token - 1) =
    c.in-Some.ensures.item.3.1 0 ∙ ap (λ xs. get_or xs (length xs - 1) 0) items ∙ last_offset ws token s l clear later high in
    let places : said_places ws ≡ c.from-in-Some.result = clear.sizes.places c.requires.start ∙ sym c.from-in-Some.ensures in
    ruled_offsets ws token (c.first_target-end.result - token) c.from.result c.from-in-Some.result later (omega (arith, vertices, c.first_target-end.ensures.value, c.requires.offset)) (c.from.ensures ∙ before) places
