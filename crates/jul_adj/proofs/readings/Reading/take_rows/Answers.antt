use Rattle.std.proofs.Common.{◌≡◌, ℕ, ◌+◌, ◌-◌, ◌<◌, ◌≤◌, List, length, take, Some, refl, sym, ap, subst, arith}
use Rattle.std.proofs.lemmas.List.{length-take}
use Rattle.jul_text.specs.declared.shapes.Shape.TheVariants.{Plain}
use Rattle.jul_text.specs.declared.shapes.Mark.{Mark}
use Rattle.jul_text.specs.Tokens.{Word}
use Rattle.jul_adj.specs.declared.faults.FaultKind.TheVariants.{Trailing}
use Rattle.jul_adj.specs.Roles.{all_tokens}
use Rattle.jul_adj.specs.Faults.{kind_at}
use Rattle.jul_adj.specs.Rules.{AreRuled}
use Rattle.jul_adj.specs.Storing.{AreMarks}
use Rattle.jul_adj.specs.Readings.{IsClear, IsPart}
use Rattle.jul_adj.proofs.ReadingLaws.{kind_extra}
use Rattle.jul_adj.proofs.StepLaws.{clear_at, clear_now, refused, no_more, marks_front, part_less, ruled_fewer, rows_read, first_mark}
use Rattle.jul_adj.proofs.readings.Reading.take_rows.Goals as goal
use Rattle.jul_adj.proofs.readings.Reading.take_rows.Goals.{In_ok-stored}

abbrev blank : Mark
blank = record { start = 0; shape = Plain }

pub returns-in_default-clause-read : goal.returns-in_default-clause-read
returns-in_default-clause-read c ws h are =
    let token : ℕ = c.args.self.now.token in
    let clear = (clear_at ws token c.args.self.now c.requires.clear h).1 in
    let last : token ≡ all_tokens ws = omega (arith, c.in_default.ensures.none ws clear, no_more ws token c.args.self.now.sizes c.args.self.now.lists clear) in
    refused ws token (token + 1) token c.args.self.now.sizes c.args.self.now.lists c.refuse.new.self Trailing _ clear (omega (arith, are.there, c.requires.some)) (kind_extra ws token last)
    (first_mark ws token c.args.marks.now blank are c.requires.some) refl c.refuse.ensures

-- the part's marks, rule and place in the file
record IsTaken (ws : List Word) (c : In_ok-stored) : Type 0 where
  clear : IsClear ws c.args.self.now.token c.args.self.now.sizes c.args.self.now.lists
  marks : AreMarks ws c.args.self.now.token c.front-part.result.now
  ruled : AreRuled ws c.args.self.now.token (length c.front-part.result.now) c.in-Some.rule
  part : IsPart ws c.in-Some.rule c.args.self.now.token (c.args.self.now.token + length c.front-part.result.now)

taken : (ws : List Word) (c : In_ok-stored) → IsClear ws c.args.self.now.token c.args.self.now.sizes c.args.self.now.lists → AreMarks ws c.args.self.now.token c.args.marks.now → IsTaken ws c
taken ws c clear are =
    let token : ℕ = c.args.self.now.token in
    let left : ℕ = c.in-Some.end - token in
    let is : c.front-part.result.now ≡ take left c.args.marks.now = c.front-part.ensures in
    let few : length c.front-part.result.now ≤ left = omega (arith, ap length is, length-take left c.args.marks.now) in
    record {
      clear = clear;
      marks = subst (AreMarks ws token) (sym is) (marks_front ws token left c.args.marks.now are);
      ruled = ruled_fewer ws token left (length c.front-part.result.now) c.in-Some.rule few (c.in-Some.ensures.ruled ws clear);
      part = part_less ws c.in-Some.rule token c.in-Some.end (token + length c.front-part.result.now) (c.in-Some.ensures.part ws clear) (omega (arith, few, c.in-Some.ensures.ahead));
    }

-- the tokens that were stored have been read
read_on : (ws : List Word) (c : In_ok-stored) → IsTaken ws c → IsClear ws (c.args.self.now.token + c.in_ok-stored.stored.count) c.args.self.now.sizes c.store.new.self
read_on ws c t =
    rows_read ws c.args.self.now.token c.in_ok-stored.stored.count c.args.self.now.sizes c.args.self.now.lists c.store.new.self t.clear c.requires.start (omega (arith, t.marks.there, c.in_ok-stored.ensures.count))
    (c.in_ok-stored.ensures.none ws c.args.self.now.token t.marks t.ruled) (c.in_ok-stored.ensures.lists ws c.args.self.now.token t.marks t.ruled t.part t.clear.lists)

pub returns-in-None-clause-read : goal.returns-in-None-clause-read
returns-in-None-clause-read c ws h are =
    let token : ℕ = c.args.self.now.token in
    let at = (goal.at.returns-in-None-clause-read c).In_ok-stored in
    let clear = (clear_at ws token c.args.self.now c.requires.clear h).1 in
    clear_now ws (token + c.in_ok-stored.stored.count) (token + c.in_ok-stored.stored.count) _ _ c.args.self.now.fault c.requires.clear refl (read_on ws at (taken ws at clear are))

pub returns-in-Some-kind-clause-read : goal.returns-in-Some-kind-clause-read
returns-in-Some-kind-clause-read c ws h are =
    let token : ℕ = c.args.self.now.token in
    let n : ℕ = c.in_ok-stored.stored.count in
    let at = (goal.at.returns-in-Some-kind-clause-read c).In_ok-stored in
    let clear = (clear_at ws token c.args.self.now c.requires.clear h).1 in
    let t : IsTaken ws at = taken ws at clear are in
    let lt : n < length c.front-part.result.now = rw c.in-Some-kind.is at c.in_ok-stored.ensures.stopped in
    let kind : kind_at ws (token + n) ≡ Some c.in-Some-kind.kind = rw c.in-Some-kind.is at (c.in_ok-stored.ensures.fault ws token t.marks t.ruled) in
    refused ws (token + n) (token + (n + 1)) (token + n) c.args.self.now.sizes c.store.new.self c.refuse-in-Some-kind.new.self c.in-Some-kind.kind _ (read_on ws at t) (omega (arith, t.marks.there, lt)) kind (t.marks.each n blank lt) refl
    c.refuse-in-Some-kind.ensures
