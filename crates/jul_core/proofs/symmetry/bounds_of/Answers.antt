use Rattle.std.proofs.Common.{◌≡◌, ◌+◌, List, [], ◌∷◌, ◌++◌, ℕ, ap, sym, ◌∙◌, subst, arith}
use Rattle.jul_core.specs.Windows.{AreWindows}
use Rattle.jul_core.proofs.WindowLaws.{no_window, window_more}
use Rattle.jul_core.proofs.symmetry.bounds_of.Goals as goal

pub loop-i-init : goal.loop-i-init
loop-i-init c = record {
  windows =
      subst (AreWindows 0 0) (sym (c.in_ok-push.ensures.items ∙ ap (λ (l : List ℕ). l ++ (0 ∷ [])) c.in_ok-bounds.ensures.items)) no_window;
  within = omega arith;
}

pub loop-i-preserved : goal.loop-i-preserved
loop-i-preserved c = record {
  windows =
      subst (AreWindows (c.loop-i.i + 1) c.min-end.result) (sym c.in_ok-push-2.ensures.items)
      (window_more c.loop-i.i c.loop-i.end c.min-end.result c.loop-i.bounds.items c.loop-i.invariant.windows (omega arith));
  within = omega arith;
}

pub returns : goal.returns
returns c =
    let all : c.loop-i.i + 1 ≡ c.args.windows = omega (arith, c.loop-i-test.false, c.loop-i.auto.i-end) in
    subst (λ k. AreWindows k c.args.n c.push-2.new.self.items) all
    (subst (AreWindows (c.loop-i.i + 1) c.args.n) (sym c.in_ok-push-3.ensures.items)
    (window_more c.loop-i.i c.loop-i.end c.args.n c.loop-i.bounds.items c.loop-i.invariant.windows c.loop-i.invariant.within))
