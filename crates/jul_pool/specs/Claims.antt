-- What the table of claims keeps: a chunk whose word is 1 stands once in the lists of all seats together.
use Rattle.std.specs.Prelude.{ℕ, ◌+◌, ◌-◌, ◌≤◌, List, [], ◌∷◌, ◌++◌, ◌≡◌, ◌==◌, Bool, length, slice_index, if◌then◌else◌}
use mathlib.Core.Option.{some}
use lib.ListN.{get_elem?}
use Rattle.atomic_table.specs.Table.{State, Me, Step}
use Rattle.jul_pool.specs.declared.claim_rule.View.{View}
use Rattle.jul_base.specs.Times.{times}
use Rattle.jul_pool.specs.Totals.{total}

-- the root's view at first
abbrev pub root_view : View
root_view = record { root = 1; part = 0; out = 0; chunks = [] }

-- the view of a seat that was split off
abbrev pub part_view : View
part_view = record { root = 0; part = 1; out = 0; chunks = [] }

-- the view of a seat that was joined
abbrev pub spent_view : View
spent_view = record { root = 0; part = 0; out = 0; chunks = [] }

-- after a swap on the word of a chunk, which is the seat's where the word was 0
abbrev pub after_take : View → ℕ → Bool → View
after_take v chunk is_own = record { root = v.root; part = v.part; out = v.out; chunks = if is_own then v.chunks ++ chunk ∷ [] else v.chunks }

-- the root, with one more out
abbrev pub with_part : View → View
with_part v = record { root = v.root; part = v.part; out = v.out + 1; chunks = v.chunks }

-- the root, with one fewer out and the chunks of the other
abbrev pub joined : View → View → View
joined v w = record { root = v.root; part = v.part; out = v.out - 1; chunks = v.chunks ++ w.chunks }

-- what the rule says of one view: a root, a part or a spent one
pub record FitsRule (v : View) : Type 0 where
  pub one : v.root + v.part ≤ 1
  pub out : v.root ≡ 0 → v.out ≡ 0
  pub spent : v.root + v.part ≡ 0 → v.chunks ≡ []

-- the rule: one root, which says how many parts are out, and each chunk stands in all lists together as often as its word says
pub record AreTaken (words : List ℕ) (views : List View) : Type 0 where
  pub fits : (id : ℕ) (v : View) → get_elem? views id ≡ some v → FitsRule v
  pub roots : total (λ v. v.root) views ≡ 1
  pub out : total (λ v. v.out) views ≡ total (λ v. v.part) views
  pub zero_or_one : (chunk : ℕ) → slice_index words (chunk + 1) ≤ 1
  pub stands : (chunk : ℕ) → total (λ v. times chunk v.chunks) views ≡ slice_index words (chunk + 1)

-- word 0 is 0 always, and word chunk + 1 is that of the chunk
pub record Keeps {S : Type 0} (chunks : ℕ) (s : State S View) : Type 0 where
  pub words : length s.words ≡ chunks + 1
  pub zero : slice_index s.words 0 ≡ 0
  pub taken : AreTaken s.words s.views

-- what a swap tells: the seat's list has the chunk where the word was 0, and so it is for the root with none out and without the chunk
pub record Took {S : Type 0} (s : Step S) (before : Me S View) (met : ℕ) (after : Me S View) : Type 0 where
  pub view : after ≡ (after_take before.0 (s.word - 1) (met == 0), before.1)
  pub alone : before.0.root ≡ 1 → before.0.out ≡ 0 → met ≡ times (s.word - 1) before.0.chunks
