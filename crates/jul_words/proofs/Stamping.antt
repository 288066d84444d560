-- Stamping a word keeps what words mean that are stamped.
use Rattle.std.proofs.Common.{◌≡◌, ℕ, ◌+◌, ◌<◌, ◌≢◌, true, List, ◌∷◌, length, drop, max, set, refl, ap, ◌∙◌, subst, ⊎_elim, arith}
use Rattle.std.specs.Prelude.{slice_index, slice_set}
use Rattle.std.proofs.lemmas.Bool.{cases_eq}
use Rattle.std.proofs.lemmas.List.{length-set, get_or-set_same, get_or-set_other}
use mathlib.Core.Option.{none}
use Rattle.atomic_table.specs.Table.{step, Allows}
use Rattle.jul_base.specs.Logs.{Entry, Home}
use Rattle.jul_words.specs.Weights.{HasSameEntries}
use Rattle.jul_words.specs.Seats.{Seat, AreKin, home, named, all_entries}
use Rattle.jul_words.specs.Views.{View, live_seats}
use Rattle.jul_words.specs.Ruled.{StandFor, Sat}
use Rattle.jul_words.specs.Stamps.{greatest, stamping, AllFirsts, IsGreatest, StampWordsRule, Tells, StampsOn}
use Rattle.jul_words.proofs.Maxima.{greatest_here, greatest_else, greatest_more, greatest_same, stamped_firsts, firsts_same, settles}
use Rattle.jul_words.proofs.Living.{word_after_one, live_kin, live_entries, others, others_entries, others_kin}
use Rattle.jul_words.proofs.Ruling.{Rule, Found, logs_at}

-- the rule in plain form, of seats that have the entries of the history together
of_seats : (h : Home) (words : List ℕ) (history : List Entry) → IsGreatest h words history → (table : List ℕ) (seats : List Seat) → AreKin (home table h.starts h.floors) seats → HasSameEntries (all_entries seats) history
    → StampWordsRule (home table h.starts h.floors) (drop 1 words) seats
of_seats h words history r table seats kin same = let all = all_entries seats in record {
  kin = kin;
  greatest_of_all = λ v near. word_after_one words v ∙ r.words_are v near ∙ greatest_same v all history same;
  marked = λ v near. firsts_same v all history same (stamped_firsts v history r.legal);
}

pub stand_for : StandFor IsGreatest StampWordsRule
stand_for h words table views r = of_seats h words r.history r.holds table (live_seats table views) (live_kin h views r.history r.kin table) (live_entries h views r.history r.kin table)

module _ (id : ℕ) (me : View) (live : me.live ≡ true) (words : List ℕ) (views : List View) (history : List Entry) (at : Found IsGreatest id me words views history) where
  abbrev h : Home
  h = me.seat.home

  -- the rule, said of the live seats
  moment : (table : List ℕ) → StampWordsRule (home table h.starts h.floors) (drop 1 words) (named table me.seat ∷ others h views history at.kin id me at.mine live table)
  moment table = of_seats h words history at.holds table _ (others_kin h views history at.kin id me at.mine live table) (others_entries h views history at.kin id me at.mine live table)

  told : (k : ℕ) → k < length h.starts → Tells me.seat k (slice_index words (k + 1))
  told k near = let w = at.holds.words_are k near in record {
    moment = λ table. (drop 1 words, others h views history at.kin id me at.mine live table, moment table, word_after_one words k);
    least = omega (arith, w, greatest_more k me.seat.log history at.knows.own);
    exact = λ a. w ∙ greatest_same k me.seat.log history (at.knows.whole a);
  }

-- a word that is stamped with c is the greatest with c among what was logged
stamped : (h : Home) (words : List ℕ) (history : List Entry) → IsGreatest h words history → (k : ℕ) → k < length h.starts → (c : ℕ) → IsGreatest h (slice_set words (k + 1) (max (slice_index words (k + 1)) c)) (stamping k c (slice_index words (k + 1)) ∷ history)
stamped h words history r k near c = let n = slice_index words (k + 1) in let e = stamping k c n in let w = r.words_are k near in record {
  size = length-set words (k + 1) (max n c) ∙ r.size;
  words_are = λ j close. ⊎_elim
      (λ (q : k ≡ j). subst (λ x. slice_index (set words (k + 1) (max n c)) (x + 1) ≡ greatest x (e ∷ history)) q
      (omega (arith, get_or-set_same words (k + 1) (max n c) 0 (omega (arith, r.size)), greatest_here k e history refl, w)))
      (λ (q : k ≢ j). omega (arith, get_or-set_other words (k + 1) (j + 1) (max n c) 0 (λ z. q (omega arith)), greatest_else j e history q, r.words_are j close))
      (cases_eq k j);
  legal = (ap (stamping k c) w, r.legal);
}

module _ (of_table : Home) (slots id : ℕ) (me : Sat) (live : me.0.live ≡ true) where
  settled : (words : List ℕ) (history log : List Entry) → IsGreatest me.0.seat.home words history → HasSameEntries log history → AllFirsts me.0.seat.home log
  settled = settles me.0.seat.home

  module _ (k : ℕ) (near : k < length me.0.seat.home.starts) where
    told_at : (words : List ℕ) (views : List View) (history : List Entry) → Found IsGreatest id me.0 words views history → Tells me.0.seat k (slice_index words (k + 1))
    told_at words views history here = told id me.0 live words views history here k near

    pub stamps : (c : ℕ) → Allows (Rule IsGreatest of_table) slots id me (k + 1) (λ n. max n c) (StampsOn (step slots (k + 1) c 0 none) me)
    stamps c = logs_at IsGreatest of_table slots id me live Tells AllFirsts settled k told_at c (λ n. max n c) (λ st v n. stamping v st.first n) (λ words history r. stamped me.0.seat.home words history r k near c)
