-- Each step keeps the rule of a table, if what the words mean outlives it.
use Rattle.std.proofs.Common.{◌≡◌, ℕ, ◌+◌, ◌<◌, true, false, List, [], ◌∷◌, ◌++◌, sym, refl, ap, subst, arith}
use Rattle.std.specs.Prelude.{slice_index, slice_set}
use Rattle.std.proofs.lemmas.List.{set-get_or}
use mathlib.Core.Option.{some, none}
use lib.ListN.{get_elem?}
use Rattle.atomic_table.specs.Table.{Step, step, keeps, Allows, Splits, Joins, opening}
use Rattle.atomic_table.proofs.Lists.{set_again}
use Rattle.jul_base.specs.Logs.{Entry, Home}
use Rattle.jul_words.specs.Weights.{HasSameEntries}
use Rattle.jul_words.specs.Seats.{Seat, rooted, beside, logs, lent, joined, IsAlone}
use Rattle.jul_words.specs.Views.{View, lives, spent, Kin}
use Rattle.jul_words.specs.Ruled.{Meaning, Ruled, Knows, Words, Sat, Looks, Logs}
use Rattle.jul_words.proofs.Sums.{weigh-append}
use Rattle.jul_words.proofs.Kinship.{begins, homely, own_le, adds, alone, forks, merges}

-- after its own entry too the root with none out has the whole history
pub one_more : (s : Seat) (history : List Entry) (e : Entry) → Knows s history → IsAlone s → HasSameEntries (s.log ++ e ∷ []) (e ∷ history)
one_more s history e k a f = omega (arith, k.whole a f, weigh-append f s.log (e ∷ []))

-- what the seat finds when it reads a word: the words, all views, and the history
pub record Found (R : Meaning) (id : ℕ) (me : View) (words : List ℕ) (views : List View) (history : List Entry) : Type 0 where
  pub holds : R me.seat.home words history
  pub kin : Kin me.seat.home views history
  pub mine : get_elem? views id ≡ some me
  pub knows : Knows me.seat history

module _ (R : Meaning) (h : Home) where
  abbrev pub Rule : Words → Type 0
  Rule s = Ruled R h s.words s.views

  pub opens : (words : List ℕ) (xs : List (Unit {0})) → R h words [] → Rule (opening words xs (lives (rooted h)))
  opens words xs holds = record { history = []; kin = begins h; holds = holds }

  pub splits : (id : ℕ) (v : View) → v.live ≡ true → v.seat.root ≡ true → Splits Rule id v (lives (lent v.seat)) (lives (beside v.seat))
  splits id v live root s r at = record { history = r.history; kin = forks _ s.views r.history r.kin id v at live root; holds = r.holds }

  pub joins : (id : ℕ) (v : View) (other : ℕ) (u : View) → v.live ≡ true → v.seat.root ≡ true → 0 < v.seat.out → u.live ≡ true → u.seat.root ≡ false → Joins Rule id v other u (lives (joined v.seat u.seat)) spent
  joins id v other u live root out u_live seat s r at apart there = record { history = r.history; kin = merges _ s.views r.history r.kin id v at live other u root out u_live seat apart there; holds = r.holds }

  module _ (slots id : ℕ) (me : Sat) (live : me.0.live ≡ true) where
    pub known : (s : Words) (r : Rule s) → get_elem? s.views id ≡ some me.0 → Knows me.0.seat r.history
    known s r at = record { own = own_le _ s.views r.history r.kin id me.0 at live; whole = alone _ s.views r.history r.kin id me.0 at live }

    at_home : (s : Words) (r : Rule s) → get_elem? s.views id ≡ some me.0 → me.0.seat.home ≡ h
    at_home s r at = homely _ s.views r.history r.kin id me.0 at live

    found : (s : Words) (r : Rule s) → get_elem? s.views id ≡ some me.0 → Found R id me.0 s.words s.views r.history
    found s r at = let is = sym (at_home s r at) in record {
      holds = subst (λ g. R g s.words r.history) is r.holds;
      kin = subst (λ g. Kin g s.views r.history) is r.kin;
      mine = at;
      knows = known s r at;
    }

    module _ (Tells : Seat → ℕ → ℕ → Type 0) (Settled : Home → List Entry → Type 0) (settles : (words : List ℕ) (history log : List Entry) → R me.0.seat.home words history → HasSameEntries log history → Settled me.0.seat.home log) where
      -- a step that logs nothing and leaves the words
      looks : (i : ℕ) → ((words : List ℕ) (views : List View) (history : List Entry) → Found R id me.0 words views history → (v : ℕ) → i ≡ v + 1 → Tells me.0.seat v (slice_index words i))
          → Allows Rule slots id me i (λ n. n) (Looks Tells Settled (step slots i 0 0 none) me)
      looks i tells s r sizes at fits =
          let W : List ℕ × List View → Type 0 = λ p. Ruled R h p.0 p.1 in let here = found s r at in (
            me.0,
            keeps,
            tt,
            subst W (λ t. (sym (set-get_or s.words i 0) t, sym (set_again s.views id me.0 at) t)) r,
            record { same = refl; tells = tells s.words s.views r.history here; settled = λ a. settles s.words r.history me.0.seat.log here.holds (here.knows.whole a) },
          )

      -- a load of the table's own word tells what the root with none out knows of its log
      pub looks_on : Allows Rule slots id me 0 (λ n. n) (Looks Tells Settled (step slots 0 0 0 none) me)
      looks_on = looks 0 (λ words views history here v q. absurd (omega arith))

      module _ (k : ℕ) (told : (words : List ℕ) (views : List View) (history : List Entry) → Found R id me.0 words views history → Tells me.0.seat k (slice_index words (k + 1))) where
        tells_at : (words : List ℕ) (views : List View) (history : List Entry) → Found R id me.0 words views history → (v : ℕ) → k + 1 ≡ v + 1 → Tells me.0.seat v (slice_index words (k + 1))
        tells_at words views history here v q = let is : k ≡ v = omega arith in subst (λ x. Tells me.0.seat x (slice_index words (k + 1))) is (told words views history here)

        pub looks_at : Allows Rule slots id me (k + 1) (λ n. n) (Looks Tells Settled (step slots (k + 1) 0 0 none) me)
        looks_at = looks (k + 1) tells_at

        -- a step that makes the word f of what it was, and logs the entry e of it
        pub logs_at : (a : ℕ) (f : ℕ → ℕ) (e : Step (Unit {0}) → ℕ → ℕ → Entry)
            → ((words : List ℕ) (history : List Entry) → R me.0.seat.home words history → R me.0.seat.home (slice_set words (k + 1) (f (slice_index words (k + 1)))) (e (step slots (k + 1) a 0 none) k (slice_index words (k + 1)) ∷ history))
            → Allows Rule slots id me (k + 1) f (Logs e Tells Settled (step slots (k + 1) a 0 none) me)
        logs_at a f e after s r sizes at fits =
            let n = slice_index s.words (k + 1) in let st = step slots (k + 1) a 0 none in let here = found s r at in let new = after s.words r.history here.holds in (
              lives (logs me.0.seat (e st k n)),
              keeps,
              tt,
              record {
                history = e st k n ∷ r.history;
                kin = adds _ s.views r.history r.kin id me.0 at live (e st k n);
                holds = subst (λ g. R g (slice_set s.words (k + 1) (f n)) (e st k n ∷ r.history)) (at_home s r at) new;
              },
              record {
                logged = λ v q. let is : k ≡ v = omega arith in ap (λ x. (lives (logs me.0.seat (e st x n)), me.1)) is;
                tells = tells_at s.words s.views r.history here;
                settled = λ a. settles _ _ _ new (one_more me.0.seat r.history (e st k n) here.knows a);
              },
            )
