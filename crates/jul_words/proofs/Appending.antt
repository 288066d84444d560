-- What lowerings add to a log, for the test with four threads.
use Rattle.std.proofs.Common.{◌≡◌, ℕ, ◌<◌, List, [], ◌∷◌, ◌++◌, length, get_or, sym, refl, ap, ◌∙◌, subst, arith, append_assoc}
use Rattle.std.proofs.lemmas.List.{append-nil}
use Rattle.jul_base.specs.Logs.{Entry, Home}
use Rattle.jul_words.specs.Seats.{Seat, rooted, lent, joined, logs, start_of, IsAlone}
use Rattle.jul_words.specs.Least.{least, lowering, word_by}
use Rattle.jul_words.specs.Lowerings.{least_of, Are, CanLower, HasLowered}
use Rattle.jul_words.proofs.Minima.{least_here}

pub are-append : (es fs : List Entry) (xs ys : List ℕ) → Are es xs → Are fs ys → Are (es ++ fs) (xs ++ ys)
are-append [] fs [] ys a b = b
are-append [] fs (x ∷ xs) ys a b = absurd a
are-append (e ∷ es) fs [] ys a b = absurd a
are-append (e ∷ es) fs (x ∷ xs) ys a b = (a.0, a.1, are-append es fs xs ys a.2 b)

-- the least of a log is the least of its numbers
pub least_are : (start : ℕ) (es : List Entry) (xs : List ℕ) → Are es xs → least 0 start es ≡ least_of start xs
least_are start [] [] a = refl
least_are start [] (x ∷ xs) a = absurd a
least_are start (e ∷ es) [] a = absurd a
least_are start (e ∷ es) (x ∷ xs) a = omega (arith, least_here 0 start e es a.0, least_are start es xs a.2, a.1)

pub none_yet : (s : Seat) → HasLowered s s []
none_yet s = record { home = refl; root = refl; out = refl; added = []; log = sym (append-nil s.log); are = tt }

pub one_more : (s t u : Seat) (xs : List ℕ) (c n : ℕ) → HasLowered s t xs → u ≡ logs t (lowering 0 c n) → HasLowered s u (xs ++ c ∷ [])
one_more s t u xs c n h is = record {
  home = ap (λ (y : Seat). y.home) is ∙ h.home;
  root = ap (λ (y : Seat). y.root) is ∙ h.root;
  out = ap (λ (y : Seat). y.out) is ∙ h.out;
  added = h.added ++ lowering 0 c n ∷ [];
  log = ap (λ (y : Seat). y.log) is ∙ ap (λ l. l ++ lowering 0 c n ∷ []) h.log ∙ append_assoc s.log h.added (lowering 0 c n ∷ []);
  are = are-append h.added (lowering 0 c n ∷ []) xs (c ∷ []) h.are (refl, refl, tt);
}

pub can_still : (table : List ℕ) (s t : Seat) → t.home ≡ s.home → CanLower table s → CanLower table t
can_still table s t same can = record {
  of_it = ap (λ (h : Home). h.table) same ∙ can.of_it;
  word = subst (λ (h : Home). 0 < length h.starts) (sym same) can.word;
  no_floor = ap (λ (h : Home). get_or h.floors 0 0) same ∙ can.no_floor;
}

-- the log of a seat that had none
pub are_all : (s t : Seat) (xs : List ℕ) → s.log ≡ [] → HasLowered s t xs → Are t.log xs
are_all s t xs none h = subst (λ l. Are l xs) (sym (h.log ∙ ap (λ l. l ++ h.added) none)) h.are

abbrev pub four_out : Home → Seat
four_out h = lent (lent (lent (lent (rooted h))))

-- the root after four splits and four joins
abbrev pub all_in : Home → Seat → Seat → Seat → Seat → Seat
all_in h f g p q = joined (joined (joined (joined (four_out h) f) g) p) q

pub by_four : (h : Home) (r f g p q : Seat) (a b c d : List ℕ) (n : ℕ) → r ≡ all_in h f g p q → Are f.log a → Are g.log b → Are p.log c → Are q.log d
    → (IsAlone r → n ≡ word_by r.home r.log 0) → n ≡ least_of (start_of h 0) (a ++ b ++ c ++ d)
by_four h r f g p q a b c d n is af bg cp dq told =
    let now : IsAlone (all_in h f g p q) → n ≡ word_by h (f.log ++ g.log ++ p.log ++ q.log) 0 = subst (λ (s : Seat). IsAlone s → n ≡ word_by s.home s.log 0) is told in
    now (refl, refl) ∙ least_are (start_of h 0) (f.log ++ g.log ++ p.log ++ q.log) (a ++ b ++ c ++ d)
    (are-append (f.log ++ g.log ++ p.log) q.log (a ++ b ++ c) d (are-append (f.log ++ g.log) p.log (a ++ b) c (are-append f.log g.log a b af bg) cp) dq)

-- the same, by the steps that lead there
pub by_steps : (h : Home) (v v₁ v₂ v₃ v₄ f g p q w₁ w₂ w₃ w₄ : Seat) (a b c d : List ℕ) (n : ℕ) → v ≡ rooted h → v₁ ≡ lent v → v₂ ≡ lent v₁ → v₃ ≡ lent v₂ → v₄ ≡ lent v₃
    → w₁ ≡ joined v₄ f → w₂ ≡ joined w₁ g → w₃ ≡ joined w₂ p → w₄ ≡ joined w₃ q → Are f.log a → Are g.log b → Are p.log c → Are q.log d
    → (IsAlone w₄ → n ≡ word_by w₄.home w₄.log 0) → n ≡ least_of (start_of h 0) (a ++ b ++ c ++ d)
by_steps h v v₁ v₂ v₃ v₄ f g p q w₁ w₂ w₃ w₄ a b c d n e₀ e₁ e₂ e₃ e₄ j₁ j₂ j₃ j₄ =
    by_four h w₄ f g p q a b c d n
    (j₄ ∙ ap (λ x. joined x q) (j₃ ∙ ap (λ x. joined x p) (j₂ ∙ ap (λ x. joined x g) (j₁ ∙ ap (λ x. joined x f) (e₄ ∙ ap lent (e₃ ∙ ap lent (e₂ ∙ ap lent (e₁ ∙ ap lent e₀))))))))
