use Rattle.std.proofs.Common.{◌≡◌, ◌<◌, ℕ, List, length, slice_index, subst, sym, All}
use Rattle.std.specs.Prelude.{Contains}
use Rattle.std.specs.List.Sorted.{IsStrictlyIncreasing}
use Rattle.std.proofs.lemmas.List.Elements.{All-contains}
use Rattle.jul_bucket.proofs.IdLaws.{current_within, current_all, picked_in_order, ids_at-within, Contains-ids_at}
use Rattle.jul_bucket.proofs.gathering.settle.Goals as goal

pub ids_of-requires-clause-ids : goal.ids_of-requires-clause-ids
ids_of-requires-clause-ids c =
    subst (All (λ id. id < length c.args.ranks.now)) (sym c.as_slice-then-not-is_increasing.ensures.value) (current_within c.args.ranks.now c.args.rank c.args.copies.now.items c.drop_stale.new.copies.items c.requires.ids c.drop_stale.ensures)

pub ids_of-requires-clause-all : goal.ids_of-requires-clause-all
ids_of-requires-clause-all c =
    let P : List ℕ → Type 0 = λ l. (id : ℕ) → id < length c.args.ranks.now → slice_index c.args.ranks.now id ≡ c.args.rank → Contains l id in
    subst P (sym c.as_slice-then-not-is_increasing.ensures.value) (current_all c.args.ranks.now c.args.rank c.args.copies.now.items c.drop_stale.new.copies.items c.requires.all c.drop_stale.ensures)

pub returns-in_err-copies-clause-ids : goal.returns-in_err-copies-clause-ids
returns-in_err-copies-clause-ids c = current_within c.args.ranks.now c.args.rank c.args.copies.now.items c.drop_stale.new.copies.items c.requires.ids c.drop_stale.ensures

pub returns-in_err-copies-clause-all : goal.returns-in_err-copies-clause-all
returns-in_err-copies-clause-all c = current_all c.args.ranks.now c.args.rank c.args.copies.now.items c.drop_stale.new.copies.items c.requires.all c.drop_stale.ensures

pub returns-in_ok-copies-clause-ids : goal.returns-in_ok-copies-clause-ids
returns-in_ok-copies-clause-ids c = subst (All (λ id. id < length c.args.ranks.now)) (sym c.in_ok-copies.ensures) (ids_at-within c.args.ranks.now c.args.rank)

pub returns-in_ok-copies-clause-all : goal.returns-in_ok-copies-clause-all
returns-in_ok-copies-clause-all c = λ id lt is. let P : List ℕ → Type 0 = λ l. Contains l id in subst P (sym c.in_ok-copies.ensures) (Contains-ids_at c.args.ranks.now c.args.rank id lt is)

pub returns-else-not-is_increasing-clause-ids : goal.returns-else-not-is_increasing-clause-ids
returns-else-not-is_increasing-clause-ids c = current_within c.args.ranks.now c.args.rank c.args.copies.now.items c.drop_stale.new.copies.items c.requires.ids c.drop_stale.ensures

pub returns-else-not-is_increasing-clause-all : goal.returns-else-not-is_increasing-clause-all
returns-else-not-is_increasing-clause-all c = current_all c.args.ranks.now c.args.rank c.args.copies.now.items c.drop_stale.new.copies.items c.requires.all c.drop_stale.ensures

pub returns-else-not-is_increasing-clause-ok : goal.returns-else-not-is_increasing-clause-ok
returns-else-not-is_increasing-clause-ok c =
    picked_in_order c.args.ranks.now c.args.rank c.args.copies.now.items c.drop_stale.new.copies.items
    (λ id has. All-contains (λ i. i < length c.args.ranks.now) c.args.copies.now.items id c.requires.ids has)
    c.requires.all (subst IsStrictlyIncreasing c.as_slice.ensures.value (c.is_increasing.ensures (c.if-not-is_increasing.false)))
    (λ id. let P = λ (l : List ℕ). Contains l id in ((λ has. subst P c.drop_stale.ensures has), (λ has. subst P (sym c.drop_stale.ensures) has)))
