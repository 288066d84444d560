-- Adding to a word and draining it keep what words mean that count.
use Rattle.std.proofs.Common.{◌≡◌, ℕ, ◌+◌, ◌%◌, ◌^◌, ◌<◌, ◌≢◌, true, List, ◌∷◌, length, drop, set, sym, refl, ◌∙◌, subst, ⊎_elim, arith}
use Rattle.std.specs.Prelude.{slice_index, slice_set}
use Rattle.std.proofs.lemmas.Bool.{cases_eq}
use Rattle.std.proofs.lemmas.List.{length-set, get_or-set_same, get_or-set_other}
use mathlib.Core.Option.{none}
use Rattle.atomic_table.specs.Table.{step, Allows}
use Rattle.jul_base.specs.Logs.{Entry, Home}
use Rattle.jul_words.specs.Weights.{HasSameEntries}
use Rattle.jul_words.specs.Seats.{Seat, AreKin, home, named, all_entries}
use Rattle.jul_words.specs.Views.{View, live_seats}
use Rattle.jul_words.specs.Ruled.{StandFor, Sat, Logs}
use Rattle.jul_words.specs.Counts.{adding, draining, is_add, IsFew, IsTally, AreTallies, IsCount, CountWordsRule, Tells, Loads, Adds, Drains}
use Rattle.jul_words.proofs.Tallies.{tally_same, tally_is, settles, no_add, other_word, one_add, added, emptied}
use Rattle.jul_words.proofs.Living.{word_after_one, live_kin, live_entries, others, others_entries, others_kin}
use Rattle.jul_words.proofs.Ruling.{Rule, Found, looks_at, logs_at}

-- the rule in plain form, of seats that have the entries of the history together
of_seats : (h : Home) (words : List ℕ) (history : List Entry) → IsCount h words history → (table : List ℕ) (seats : List Seat) → AreKin (home table h.starts h.floors) seats → HasSameEntries (all_entries seats) history
    → CountWordsRule (home table h.starts h.floors) (drop 1 words) seats
of_seats h words history r table seats kin same = let all = all_entries seats in record {
  kin = kin;
  tallies = λ v near few. subst (λ n. IsTally v n all) (sym (word_after_one words v)) (tally_same v _ all history same (r.words_are v near (omega (arith, same (is_add v)))));
}

pub stand_for : StandFor IsCount CountWordsRule
stand_for h words table views r = of_seats h words r.history r.holds table (live_seats table views) (live_kin h views r.history r.kin table) (live_entries h views r.history r.kin table)

module _ (id : ℕ) (me : View) (live : me.live ≡ true) (words : List ℕ) (views : List View) (history : List Entry) (at : Found IsCount id me words views history) where
  abbrev h : Home
  h = me.seat.home

  -- the rule, said of the live seats
  moment : (table : List ℕ) → CountWordsRule (home table h.starts h.floors) (drop 1 words) (named table me.seat ∷ others h views history at.kin id me at.mine live table)
  moment table = of_seats h words history at.holds table _ (others_kin h views history at.kin id me at.mine live table) (others_entries h views history at.kin id me at.mine live table)

  told : (k : ℕ) → k < length h.starts → Tells me.seat k (slice_index words (k + 1))
  told k near = record {
    moment = λ table. (drop 1 words, others h views history at.kin id me at.mine live table, moment table, word_after_one words k);
    exact = λ alone few. let same = at.knows.whole alone in tally_is k _ me.seat.log (tally_same k _ me.seat.log history same (at.holds.words_are k near (omega (arith, same (is_add k)))));
  }

-- the word k becomes m, as the entry e of k says
puts : (h : Home) (words : List ℕ) (history : List Entry) (k m : ℕ) (e : Entry) → k < length h.starts → e.vertex ≡ k → IsCount h words history → (IsFew k (e ∷ history) → IsTally k m (e ∷ history)) → IsCount h (slice_set words (k + 1) m) (e ∷ history)
puts h words history k m e near at r now = record {
  size = length-set words (k + 1) m ∙ r.size;
  words_are = λ j close few. ⊎_elim
      (λ (q : k ≡ j). subst (λ x. IsFew x (e ∷ history) → IsTally x (slice_index (set words (k + 1) m) (x + 1)) (e ∷ history)) q
      (λ f. subst (λ n. IsTally k n (e ∷ history)) (sym (get_or-set_same words (k + 1) m 0 (omega (arith, r.size)))) (now f)) few)
      (λ (q : k ≢ j). let apart : e.vertex ≢ j = λ z. q (sym at ∙ z) in
      subst (λ n. IsTally j n (e ∷ history)) (sym (get_or-set_other words (k + 1) (j + 1) m 0 (λ z. q (omega arith))))
      (other_word j e apart (slice_index words (j + 1)) history (r.words_are j close (omega (arith, no_add j e apart)))))
      (cases_eq k j);
}

module _ (of_table : Home) (slots id : ℕ) (me : Sat) (live : me.0.live ≡ true) where
  settled : (words : List ℕ) (history log : List Entry) → IsCount me.0.seat.home words history → HasSameEntries log history → AreTallies me.0.seat.home log
  settled = settles me.0.seat.home

  module _ (k : ℕ) (near : k < length me.0.seat.home.starts) where
    told_at : (words : List ℕ) (views : List View) (history : List Entry) → Found IsCount id me.0 words views history → Tells me.0.seat k (slice_index words (k + 1))
    told_at words views history here = told id me.0 live words views history here k near

    pub loads : Allows (Rule IsCount of_table) slots id me (k + 1) (λ n. n) (Loads (step slots (k + 1) 0 0 none) me)
    loads = looks_at IsCount of_table slots id me live Tells AreTallies settled k told_at

    -- a step that makes the word f of what it was, as its entry says
    puts_at : (a : ℕ) (f : ℕ → ℕ) (e : ℕ → ℕ → Entry) → ((n : ℕ) → (e k n).vertex ≡ k) → ((n : ℕ) (es : List Entry) → IsFew k (e k n ∷ es) → (IsFew k es → IsTally k n es) → IsTally k (f n) (e k n ∷ es))
        → Allows (Rule IsCount of_table) slots id me (k + 1) f (Logs (λ st v n. e v n) Tells AreTallies (step slots (k + 1) a 0 none) me)
    puts_at a f e of_it now = logs_at IsCount of_table slots id me live Tells AreTallies settled k told_at a f (λ st v n. e v n) (λ words history r.
        let n = slice_index words (k + 1) in puts me.0.seat.home words history k (f n) (e k n) near (of_it n) r (λ few. now n history few (r.words_are k near)))

    pub adds : (place : ℕ) → Allows (Rule IsCount of_table) slots id me (k + 1) (λ n. (n + 1) % 2 ^ 64) (Adds place (step slots (k + 1) 1 0 none) me)
    adds place = puts_at 1 (λ n. (n + 1) % 2 ^ 64) (λ v n. adding v place n) (λ n. refl) (λ n es few t. added k n place es few (t (omega (arith, one_add k n place))))

    pub drains : Allows (Rule IsCount of_table) slots id me (k + 1) (λ _. 0) (Drains (step slots (k + 1) 0 0 none) me)
    drains = puts_at 0 (λ _. 0) draining (λ n. refl) (λ n es few t. emptied k n es (t (omega arith)))
