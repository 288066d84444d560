use Rattle.std.proofs.Common.{◌≡◌, ℕ, ◌+◌, ◌<◌, List, [], length, get_or, sym, ◌∙◌, ap, subst, arith}
use Rattle.std.specs.List.{All}
use Rattle.std.specs.List.Sorted.{IsStrictlyIncreasing}
use Rattle.jul_base.specs.Sets.{AreSets}
use Rattle.jul_rows.specs.Cuts.{part}
use Rattle.jul_rows.proofs.CutLaws.{length-parts, get_or-parts}
use Rattle.jul_rows.proofs.set_rows.SetRows.set.Goals as goal

pub part_of-requires-clause-in_range : goal.part_of-requires-clause-in_range
part_of-requires-clause-in_range c =
    omega (
      arith,
      ap (λ (sets : List (List ℕ)). length sets) c.self.view_is,
      length-parts c.self.inside.bounds.items c.self.inside.items.items,
      ap (λ (l : List ℕ). length l) c.as_slice.ensures.value,
    )

-- the part that was cut out is the set of the view
set_is : (c : goal.After-part_of) → c.part_of.result.now ≡ get_or c.args.self.now c.args.s []
set_is c =
    let bounds : List ℕ = c.self.inside.bounds.items in
    let items : List ℕ = c.self.inside.items.items in
    let s : ℕ = c.args.s in
    let in_range : c.args.s + 1 < length bounds =
    omega (arith, c.requires, ap (λ (sets : List (List ℕ)). length sets) c.self.view_is, length-parts bounds items) in
    c.part_of.ensures
    ∙ ap (λ (b : List ℕ). part b c.as_slice-2.result.now s) c.as_slice.ensures.value
    ∙ ap (λ (l : List ℕ). part bounds l s) c.as_slice-2.ensures.value
    ∙ sym (get_or-parts bounds items s in_range)
    ∙ ap (λ (sets : List (List ℕ)). get_or sets s []) c.self.view_is

pub returns-clause-set : goal.returns-clause-set
returns-clause-set c = set_is c

pub returns-clause-increasing : goal.returns-clause-increasing
returns-clause-increasing c =
    let P : List (List ℕ) → Type 0 = AreSets in
    let Q : List ℕ → Type 0 = IsStrictlyIncreasing in
    let sets : AreSets c.args.self.now = subst P c.self.view_is c.self.invariant.1 in
    subst Q (sym (set_is c)) (sets.increasing c.args.s c.requires)

pub returns-clause-within : goal.returns-clause-within
returns-clause-within c =
    let P : List (List ℕ) → Type 0 = AreSets in
    let Q : List ℕ → Type 0 = All (λ e. e < length c.args.self.now) in
    let sets : AreSets c.args.self.now = subst P c.self.view_is c.self.invariant.1 in
    subst Q (sym (set_is c)) (sets.within c.args.s c.requires)
