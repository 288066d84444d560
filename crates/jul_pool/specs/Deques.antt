-- What the protocol of the deques keeps: what a deque holds and what was popped or stolen from it are together what was pushed, each once.
use Rattle.std.specs.Prelude.{ℕ, ◌+◌, ◌<◌, ◌≤◌, ◌⊎◌, List, [], ◌++◌, ◌≡◌}
use mathlib.Core.Option.{some}
use lib.ListN.{get_elem?}
use Rattle.jul_pool.specs.declared.deque_rule.PassView.{PassView}
use Rattle.jul_base.specs.Times.{times}
use Rattle.jul_pool.specs.Totals.{total}

-- the view of the worker's own pass at first, which alone pushes
abbrev pub owner_view : PassView
owner_view = record { pushes = 1; pushed = []; taken = [] }

-- the view of any other pass at first
abbrev pub thief_view : PassView
thief_view = record { pushes = 0; pushed = []; taken = [] }

-- after a push
abbrev pub with_pushed : PassView → List ℕ → PassView
with_pushed v xs = record { pushes = v.pushes; pushed = v.pushed ++ xs; taken = v.taken }

-- after a pop or a steal
abbrev pub with_taken : PassView → List ℕ → PassView
with_taken v xs = record { pushes = v.pushes; pushed = v.pushed; taken = v.taken ++ xs }

-- the rule: one pass pushes, and what the deque holds and what all passes have taken are together what was pushed, each once
pub record IsDealt (items : List ℕ) (views : List PassView) : Type 0 where
  pub pushers : total (λ v. v.pushes) views ≡ 1
  pub others : (id : ℕ) (v : PassView) → get_elem? views id ≡ some v → v.pushes ≡ 0 → v.pushed ≡ []
  pub together : (x : ℕ) → times x items + total (λ v. times x v.taken) views ≡ total (λ v. times x v.pushed) views
  pub once : (x : ℕ) → total (λ v. times x v.pushed) views ≤ 1

-- the pass that pushes, where no chunk from `next` on was pushed yet
pub record MayPush (next : ℕ) (v : PassView) : Type 0 where
  pub own : v.pushes ≡ 1
  pub fresh : (x : ℕ) → next ≤ x → times x v.pushed ≡ 0

-- some of the chunks from `next` up to but not including `end` were pushed, and nothing was taken
pub record HasPushed (next end : ℕ) (old new : PassView) : Type 0 where
  pub own : new.pushes ≡ old.pushes
  pub taken : new.taken ≡ old.taken
  pub more : (x : ℕ) → 0 < times x new.pushed → (0 < times x old.pushed) ⊎ ((next ≤ x) × (x < end))

-- each chunk that was pushed is one of those from `first` up to but not including `end`
abbrev pub IsWithin : ℕ → ℕ → PassView → Type 0
IsWithin first end v = (x : ℕ) → 0 < times x v.pushed → (first ≤ x) × (x < end)
