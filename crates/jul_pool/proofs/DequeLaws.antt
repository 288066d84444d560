-- Each push, pop and steal keeps the rule of the deques.
use Rattle.std.proofs.Common.{◌≡◌, ◌≢◌, ◌⊎◌, ℕ, ◌+◌, ◌<◌, ◌≤◌, List, [], ◌∷◌, ◌++◌, set, refl, ap, sym, ◌∙◌, subst, ⊎_elim, inl, inr, arith, Result, Ok, Err, MatchResult}
use Rattle.std.proofs.lemmas.Bool.{cases_eq}
use mathlib.Core.Option.{some, some-ne-none}
use lib.ListN.{get_elem?}
use Rattle.crossbeam_deque.specs.Tasks.{Pushes, Takes, Pops, Admits}
use Rattle.crossbeam_deque.proofs.Lists.{at_set, at_snoc}
use Rattle.jul_pool.specs.declared.deque_rule.PassView.{PassView}
use Rattle.jul_base.specs.Times.{times}
use Rattle.jul_pool.specs.Totals.{total}
use Rattle.jul_pool.specs.Deques.{owner_view, thief_view, with_pushed, with_taken, IsDealt, MayPush, HasPushed, IsWithin}
use Rattle.jul_base.proofs.TimesLaws.{times-append, times_here, times_other}
use Rattle.jul_pool.proofs.TotalLaws.{total_set, total_push, total_only}

abbrev OthersNone : List PassView → Type 0
OthersNone views = (id : ℕ) (v : PassView) → get_elem? views id ≡ some v → v.pushes ≡ 0 → v.pushed ≡ []

others_set : (views : List PassView) (id : ℕ) (w : PassView) → OthersNone views → (w.pushes ≡ 0 → w.pushed ≡ []) → OthersNone (set views id w)
others_set views id w all mine j u e =
    ⊎_elim
    (λ (x : (j ≡ id) × (w ≡ u)). subst (λ (y : PassView). y.pushes ≡ 0 → y.pushed ≡ []) x.1 mine)
    (λ (x : (j ≢ id) × (get_elem? views j ≡ some u)). all j u x.1)
    (at_set views id j w u e)

others_push : (views : List PassView) (w : PassView) → OthersNone views → (w.pushes ≡ 0 → w.pushed ≡ []) → OthersNone (views ++ w ∷ [])
others_push views w all mine j u e =
    ⊎_elim
    (λ (x : get_elem? views j ≡ some u). all j u x)
    (λ (x : w ≡ u). subst (λ (y : PassView). y.pushes ≡ 0 → y.pushed ≡ []) x mine)
    (at_snoc views w u j e)

-- the pass that pushes has pushed all
all_pushed : (items : List ℕ) (views : List PassView) (id : ℕ) (v : PassView) → IsDealt items views → get_elem? views id ≡ some v → v.pushes ≡ 1 → (x : ℕ) → total (λ u. times x u.pushed) views ≡ times x v.pushed
all_pushed items views id v d at pushes x = total_only (λ u. times x u.pushed) (λ u. u.pushes) views id v at (d.pushers ∙ sym pushes) (λ j w e z. ap (times x) (d.others j w e z))

pub begins : IsDealt [] (owner_view ∷ [])
begins = record {
  pushers = refl;
  others = others_push [] owner_view (λ id v e. absurd (some-ne-none v (sym e))) (λ h. absurd (omega arith));
  together = λ x. refl;
  once = λ x. omega arith;
}

pub pushes : (port : ℕ) (v : PassView) (x : ℕ) → v.pushes ≡ 1 → times x v.pushed ≡ 0 → Pushes IsDealt port v (x ∷ []) (λ w. w ≡ with_pushed v (x ∷ []))
pushes port v x own fresh items views d at =
    let w : PassView = with_pushed v (x ∷ []) in
    let set_at = λ (f : PassView → ℕ). total_set f views port v w at in (
      w,
      record {
        pushers = omega (arith, set_at (λ u. u.pushes), d.pushers);
        others = others_set views port w d.others (λ h. absurd (omega arith));
        together = λ y. omega (arith, set_at (λ u. times y u.taken), set_at (λ u. times y u.pushed), times-append y items (x ∷ []), times-append y v.pushed (x ∷ []), d.together y);
        once = λ y. ⊎_elim
            (λ (e : y ≡ x). let here : times y (x ∷ []) ≡ 1 = times_here y x e in let none : times y v.pushed ≡ 0 = subst (λ k. times k v.pushed ≡ 0) (sym e) fresh in omega (arith, set_at (λ u. times y u.pushed), times-append y v.pushed (x ∷ []), all_pushed items views port v d at own y))
            (λ (ne : y ≡ x → ⊥). omega (arith, set_at (λ u. times y u.pushed), times-append y v.pushed (x ∷ []), times_other y x ne, d.once y))
            (cases_eq y x);
      },
      refl,
    )

pub takes : (port : ℕ) (v : PassView) (most : ℕ) → Takes IsDealt port v most (λ xs w. w ≡ with_taken v xs)
takes port v most xs items views some_of few d at =
    let w : PassView = with_taken v xs in
    let set_at = λ (f : PassView → ℕ). total_set f views port v w at in (
      w,
      record {
        pushers = omega (arith, set_at (λ u. u.pushes), d.pushers);
        others = others_set views port w d.others (d.others port v at);
        together = λ y. omega (arith, set_at (λ u. times y u.taken), set_at (λ u. times y u.pushed), times-append y xs items, times-append y v.taken xs, d.together y);
        once = λ y. omega (arith, set_at (λ u. times y u.pushed), d.once y);
      },
      refl,
    )

pub pops : (port : ℕ) (v : PassView) → Pops IsDealt port v (λ xs w. w ≡ with_taken v xs)
pops port v x items views d at =
    let w : PassView = with_taken v (x ∷ []) in
    let set_at = λ (f : PassView → ℕ). total_set f views port v w at in (
      w,
      record {
        pushers = omega (arith, set_at (λ u. u.pushes), d.pushers);
        others = others_set views port w d.others (d.others port v at);
        together = λ y. omega (arith, set_at (λ u. times y u.taken), set_at (λ u. times y u.pushed), times-append y items (x ∷ []), times-append y v.taken (x ∷ []), d.together y);
        once = λ y. omega (arith, set_at (λ u. times y u.pushed), d.once y);
      },
      refl,
    )

pub admits : Admits IsDealt thief_view
admits items views d =
    let push_at = λ (f : PassView → ℕ). total_push f views thief_view in record {
      pushers = omega (arith, push_at (λ u. u.pushes), d.pushers);
      others = others_push views thief_view d.others (λ h. refl);
      together = λ y. omega (arith, push_at (λ u. times y u.taken), push_at (λ u. times y u.pushed), d.together y);
      once = λ y. omega (arith, push_at (λ u. times y u.pushed), d.once y);
    }

-- a push is done or refused
pub pushed_or_not : (r : Result (Unit {0}) ℕ) (old new : PassView) (chunk : ℕ) (A B C : Type 0) → MatchResult r (λ _. (new ≡ with_pushed old (chunk ∷ [])) × A) (λ x. (x ≡ chunk) × (new ≡ old) × B × C) → (new ≡ with_pushed old (chunk ∷ [])) ⊎ (new ≡ old)
pushed_or_not (Ok u) old new chunk A B C h = inl h.0
pushed_or_not (Err x) old new chunk A B C h = inr h.1

pub may_push_first : (first : ℕ) (v : PassView) → v ≡ owner_view → MayPush first v
may_push_first first v e = subst (MayPush first) (sym e) record { own = refl; fresh = λ x h. refl }

pub pushed_none : (next end : ℕ) (v : PassView) → HasPushed next end v v
pushed_none next end v = record { own = refl; taken = refl; more = λ x h. inl h }

-- the next chunk was pushed, or its push was refused: so the one behind it may be pushed
pub may_push_next : (chunk : ℕ) (old new : PassView) → MayPush chunk old → (new ≡ with_pushed old (chunk ∷ [])) ⊎ (new ≡ old) → MayPush (chunk + 1) new
may_push_next chunk old new may how =
    ⊎_elim
    (λ (e : new ≡ with_pushed old (chunk ∷ [])). subst (MayPush (chunk + 1)) (sym e) record {
      own = may.own;
      fresh = λ x h. omega (arith, times-append x old.pushed (chunk ∷ []), times_other x chunk (λ q. absurd (omega arith)), may.fresh x (omega arith));
    })
    (λ (e : new ≡ old). subst (MayPush (chunk + 1)) (sym e) record { own = may.own; fresh = λ x h. may.fresh x (omega arith) })
    how

pub pushed_more : (next chunk end : ℕ) (start old new : PassView) → HasPushed next end start old → next ≤ chunk → chunk < end → (new ≡ with_pushed old (chunk ∷ [])) ⊎ (new ≡ old) → HasPushed next end start new
pushed_more next chunk end start old new p low high how =
    ⊎_elim
    (λ (e : new ≡ with_pushed old (chunk ∷ [])). subst (HasPushed next end start) (sym e) record {
      own = p.own;
      taken = p.taken;
      more = λ x h. ⊎_elim
          (λ (q : x ≡ chunk). inr (omega arith, omega arith))
          (λ (ne : x ≡ chunk → ⊥). p.more x (omega (arith, h, times-append x old.pushed (chunk ∷ []), times_other x chunk ne)))
          (cases_eq x chunk);
    })
    (λ (e : new ≡ old). subst (HasPushed next end start) (sym e) p)
    how

-- what a deque has that was filled from the first chunk of its range on
pub pushed_within : (first next : ℕ) (old new : PassView) → old ≡ owner_view → HasPushed first next old new → IsWithin first next new
pushed_within first next old new e p x h =
    ⊎_elim
    (λ (was : 0 < times x old.pushed). absurd (let none : times x old.pushed ≡ 0 = ap (λ v. times x v.pushed) e in omega arith))
    (λ (w : (first ≤ x) × (x < next)). w)
    (p.more x h)

pub may_push_rest : (first next : ℕ) (old new : PassView) → old ≡ owner_view → HasPushed first next old new → MayPush next new
may_push_rest first next old new e p = record {
  own = p.own ∙ ap (λ v. v.pushes) e;
  fresh = λ x h. ⊎_elim
      (λ (z : times x new.pushed ≡ 0). z)
      (λ (ne : times x new.pushed ≡ 0 → ⊥). absurd (let w = pushed_within first next old new e p x (omega arith) in omega arith))
      (cases_eq (times x new.pushed) 0);
}
