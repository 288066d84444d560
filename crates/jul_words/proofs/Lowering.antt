-- Lowering a word keeps what words mean that are lowered.
use Rattle.std.proofs.Common.{◌≡◌, ℕ, ◌+◌, ◌<◌, ◌≤◌, ◌≢◌, true, List, ◌∷◌, length, drop, min, set, refl, sym, ap, ◌∙◌, subst, ⊎_elim, arith}
use Rattle.std.specs.Prelude.{slice_index, slice_set}
use Rattle.std.proofs.lemmas.Bool.{cases_eq}
use Rattle.std.proofs.lemmas.List.{length-set, get_or-set_same, get_or-set_other}
use mathlib.Core.Option.{none}
use Rattle.atomic_table.specs.Table.{step, Allows}
use Rattle.jul_base.specs.Logs.{Entry, Home}
use Rattle.jul_words.specs.Weights.{HasSameEntries}
use Rattle.jul_words.specs.Seats.{Seat, AreKin, home, named, all_entries, start_of, floor_of}
use Rattle.jul_words.specs.Views.{View, live_seats}
use Rattle.jul_words.specs.Ruled.{StandFor, Sat}
use Rattle.jul_words.specs.Least.{IsLeast, MinWordsRule, IsSettled, Tells, Loads, Lowers, word_by, lowering}
use Rattle.jul_words.proofs.Living.{word_after_one, live_kin, live_entries, others, others_entries, others_kin}
use Rattle.jul_words.proofs.Minima.{least_here, least_else, least_more, least_same, lowers_floor, lowers_marks, marks_same, settles}
use Rattle.jul_words.proofs.Ruling.{Rule, Found, looks_at, logs_at}

-- the rule in plain form, of seats that have the entries of the history together
of_seats : (h : Home) (words : List ℕ) (history : List Entry) → IsLeast h words history → (table : List ℕ) (seats : List Seat) → AreKin (home table h.starts h.floors) seats → HasSameEntries (all_entries seats) history
    → MinWordsRule (home table h.starts h.floors) (drop 1 words) seats
of_seats h words history r table seats kin same =
    let all = all_entries seats in let is : (v : ℕ) → v < length h.starts → slice_index (drop 1 words) v ≡ word_by h history v = λ v near. word_after_one words v ∙ r.words_are v near in record {
      kin = kin;
      least_of_all = λ v near. is v near ∙ least_same v (start_of h v) all history same;
      floors = λ v near. subst (λ n. floor_of h v ≤ n) (sym (is v near)) (lowers_floor h v history (r.floors v near) r.legal);
      marked = λ v near. marks_same (start_of h v) v all history same (lowers_marks h v history r.legal);
    }

pub stand_for : StandFor IsLeast MinWordsRule
stand_for h words table views r = of_seats h words r.history r.holds table (live_seats table views) (live_kin h views r.history r.kin table) (live_entries h views r.history r.kin table)

module _ (id : ℕ) (me : View) (live : me.live ≡ true) (words : List ℕ) (views : List View) (history : List Entry) (at : Found IsLeast id me words views history) where
  abbrev h : Home
  h = me.seat.home

  -- the rule, said of the live seats
  moment : (table : List ℕ) → MinWordsRule (home table h.starts h.floors) (drop 1 words) (named table me.seat ∷ others h views history at.kin id me at.mine live table)
  moment table = of_seats h words history at.holds table _ (others_kin h views history at.kin id me at.mine live table) (others_entries h views history at.kin id me at.mine live table)

  module _ (k : ℕ) (near : k < length h.starts) where
    told : Tells me.seat k (slice_index words (k + 1))
    told = let w = at.holds.words_are k near in record {
      moment = λ table. (drop 1 words, others h views history at.kin id me at.mine live table, moment table, word_after_one words k);
      floor = omega (arith, w, lowers_floor h k history (at.holds.floors k near) at.holds.legal);
      most = omega (arith, w, least_more k (start_of h k) me.seat.log history at.knows.own);
      exact = λ a. w ∙ least_same k (start_of h k) me.seat.log history (at.knows.whole a);
    }

-- a word that is lowered to c is the least with c among what was logged
lowered : (h : Home) (words : List ℕ) (history : List Entry) → IsLeast h words history → (k : ℕ) → k < length h.starts → (c : ℕ) → floor_of h k ≤ c → IsLeast h (slice_set words (k + 1) (min (slice_index words (k + 1)) c)) (lowering k c (slice_index words (k + 1)) ∷ history)
lowered h words history r k near c low = let n = slice_index words (k + 1) in let e = lowering k c n in let w = r.words_are k near in record {
  size = length-set words (k + 1) (min n c) ∙ r.size;
  floors = r.floors;
  words_are = λ j close. ⊎_elim
      (λ (q : k ≡ j). subst (λ x. slice_index (set words (k + 1) (min n c)) (x + 1) ≡ word_by h (e ∷ history) x) q
      (omega (arith, get_or-set_same words (k + 1) (min n c) 0 (omega (arith, r.size)), least_here k (start_of h k) e history refl, w)))
      (λ (q : k ≢ j). omega (arith, get_or-set_other words (k + 1) (j + 1) (min n c) 0 (λ z. q (omega arith)), least_else j (start_of h j) e history q, r.words_are j close))
      (cases_eq k j);
  legal = (ap (lowering k c) w, low, r.legal);
}

module _ (of_table : Home) (slots id : ℕ) (me : Sat) (live : me.0.live ≡ true) where
  settled : (words : List ℕ) (history log : List Entry) → IsLeast me.0.seat.home words history → HasSameEntries log history → IsSettled me.0.seat.home log
  settled = settles me.0.seat.home

  module _ (k : ℕ) (near : k < length me.0.seat.home.starts) where
    told_at : (words : List ℕ) (views : List View) (history : List Entry) → Found IsLeast id me.0 words views history → Tells me.0.seat k (slice_index words (k + 1))
    told_at words views history here = told id me.0 live words views history here k near

    pub loads : Allows (Rule IsLeast of_table) slots id me (k + 1) (λ n. n) (Loads (step slots (k + 1) 0 0 none) me)
    loads = looks_at IsLeast of_table slots id me live Tells IsSettled settled k told_at

    pub lowers : (c : ℕ) → floor_of me.0.seat.home k ≤ c → Allows (Rule IsLeast of_table) slots id me (k + 1) (λ n. min n c) (Lowers (step slots (k + 1) c 0 none) me)
    lowers c low = logs_at IsLeast of_table slots id me live Tells IsSettled settled k told_at c (λ n. min n c) (λ st v n. lowering v st.first n) (λ words history r. lowered me.0.seat.home words history r k near c low)
