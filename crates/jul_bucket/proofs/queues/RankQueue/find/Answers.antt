use Rattle.std.proofs.Common.{◌≡◌, ℕ, ◌<◌, ◌-◌, List, subst, Option, Some, None}
use Rattle.std.proofs.lemmas.Option.{MatchOption-at_none, MatchOption-at_some}
use Rattle.jul_bucket.specs.declared.limits.TheConstants.{LEVELS}
use Rattle.jul_bucket.specs.declared.queues.RankQueue.{RankQueue}
use Rattle.jul_bucket.specs.Copies.{FindsOpen, FindsLevel, IsFirstOpen, IsFirstAt, IsSpent}
use Rattle.jul_bucket.specs.QueueViews.{IsNearSpent}
use Rattle.jul_bucket.proofs.TakingLaws.{none_held, ids_lent}
use Rattle.jul_bucket.proofs.queues.RankQueue.find.Goals as goal

-- no near list holds its rank
no_near : (s : RankQueue) (lent : List ℕ) (o : Option ℕ) → lent ≡ s.ranks.items → o ≡ None → FindsOpen lent s.near.items s.base (s.front - s.base) s.end o → IsNearSpent s
no_near s lent o value is finds =
    MatchOption-at_none (IsNearSpent s) (IsFirstOpen s.ranks.items s.near.items s.base (s.front - s.base) s.end) is (subst (λ (l : List ℕ). FindsOpen l s.near.items s.base (s.front - s.base) s.end o) value finds)

module _ (s : RankQueue) (lent : List ℕ) (o : Option (ℕ × ℕ)) (value : lent ≡ s.ranks.items) (finds : FindsLevel lent s.levels.items s.bounds o) where
  abbrev AllSpent : Type 0
  AllSpent = (k : ℕ) → k < LEVELS → IsSpent s.ranks.items s.levels.items s.bounds k

  finds_owned : FindsLevel s.ranks.items s.levels.items s.bounds o
  finds_owned = subst (λ (l : List ℕ). FindsLevel l s.levels.items s.bounds o) value finds

  -- no level holds a rank that it is for
  no_level : o ≡ None → (k : ℕ) → k < LEVELS → IsSpent s.ranks.items s.levels.items s.bounds k
  no_level is = MatchOption-at_none AllSpent (λ (at : ℕ × ℕ). IsFirstAt s.ranks.items s.levels.items s.bounds at.0 at.1) is finds_owned

  -- the first level that holds a rank that it is for
  found_level : (at : ℕ × ℕ) → o ≡ Some at → IsFirstAt s.ranks.items s.levels.items s.bounds at.0 at.1
  found_level at is = MatchOption-at_some AllSpent (λ (at : ℕ × ℕ). IsFirstAt s.ranks.items s.levels.items s.bounds at.0 at.1) at is finds_owned

pub find_open-requires-clause-ids : goal.find_open-requires-clause-ids
find_open-requires-clause-ids c = ids_lent c.as_slice-ranks.result.now c.args.self.now.ranks.items c.args.self.now.near.items c.as_slice-ranks.ensures.value c.requires.lists.near_ids

pub find_level-requires-clause-ids : goal.find_level-requires-clause-ids
find_level-requires-clause-ids c = ids_lent c.as_slice-ranks.result.now c.args.self.now.ranks.items c.args.self.now.levels.items c.as_slice-ranks.ensures.value c.requires.lists.level_ids

pub returns-in-None : goal.returns-in-None
returns-in-None c =
    let s = c.args.self.now in
    none_held s c.requires (no_near s c.as_slice-ranks.result.now c.find_open.result c.as_slice-ranks.ensures.value c.in_default.is c.find_open.ensures)
    (no_level s c.as_slice-ranks.result.now c.find_level.result c.as_slice-ranks.ensures.value c.find_level.ensures c.in-None.is)

pub returns-in-Some-find_level : goal.returns-in-Some-find_level
returns-in-Some-find_level c =
    let s = c.args.self.now in (
      no_near s c.as_slice-ranks.result.now c.find_open.result c.as_slice-ranks.ensures.value c.in_default.is c.find_open.ensures,
      found_level s c.as_slice-ranks.result.now c.find_level.result c.as_slice-ranks.ensures.value c.find_level.ensures (c.in-Some-find_level.level, c.in-Some-find_level.rank) c.in-Some-find_level.is,
    )
