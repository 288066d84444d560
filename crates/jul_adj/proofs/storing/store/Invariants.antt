use Rattle.std.proofs.Common.{◌≡◌, ℕ, ◌<◌, ◌^◌, List, length}
use Rattle.jul_text.specs.Tokens.{Word}
use Rattle.jul_adj.specs.Rules.{bound_of, behind, AreRuled}
use Rattle.jul_adj.specs.Storing.{AreMarks}
use Rattle.jul_adj.proofs.StoringLaws.{IsStoring}
use Rattle.jul_adj.proofs.storing.store.Given as goal

abbrev pub invariant-loop-mark : goal.invariant-loop-mark
invariant-loop-mark l = record {
  count : l.count ≡ l.mark-index;
  bound : bound_of l.rule < 2 ^ 32;
  same : (v : ℕ) → behind l.rule v ≡ behind l.fn.rule v;
  storing : (ws : List Word) (token : ℕ) → AreMarks ws token l.marks → AreRuled ws token (length l.marks) l.fn.rule →
      IsStoring ws token l.count (length l.marks) l.rule l.initial.values.items l.values.items;
}
