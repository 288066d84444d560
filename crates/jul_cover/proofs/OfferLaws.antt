-- What sets that offer numbers to their elements leave of the words.
use Rattle.std.proofs.Common.{◌≡◌, ◌⊎◌, ℕ, zero, suc, ◌+◌, ◌<◌, ◌≤◌, Bool, true, false, eqb, cond, List, [], ◌∷◌, ◌++◌, length, map, take, get_or, refl, sym, ap, ◌∙◌, subst, arith, inl, inr, append_assoc}
use Rattle.std.specs.List.{Contains, All, count_by}
use Rattle.std.proofs.lemmas.Bool.{cases_Bool, cases_lt, eqb-true, eq-eqb}
use Rattle.std.proofs.lemmas.List.{map-append, take_more, append-nil}
use Rattle.std.proofs.lemmas.List.Elements.{All-head, All-tail, All-push, All-contains, All-map}
use Rattle.jul_base.specs.Logs.{Log, Entry}
use Rattle.jul_base.specs.Sets.{has}
use Rattle.jul_base.proofs.CountLaws.{count_by-positive, none_or_one}
use Rattle.jul_base.proofs.SetLaws.{Contains-from_has, has-from_Contains, Contains-cons_cases}
use Rattle.jul_pool.specs.Added.{HasAdded, first_part, entries_of}
use Rattle.jul_pool.proofs.PartLaws.{HasOnePart, one_part}
use Rattle.jul_words.specs.Weights.{weigh}
use Rattle.jul_words.specs.Marks.{is_at}
use Rattle.jul_words.specs.Seats.{Seat, IsAlone, start_of, logs}
use Rattle.jul_words.specs.Least.{least, word_of, lowering}
use Rattle.jul_words.proofs.Sums.{weigh-append}
use Rattle.jul_words.proofs.Marking.{at_here, at_parts}
use Rattle.jul_words.proofs.LaterLaws.{least_falls, least_offered, least_fell}
use Rattle.jul_subset.specs.Applications.{Done, AppliedOnce, SameItems}
use Rattle.jul_cover.specs.declared.packed_sets.PackedSets.{PackedSets}
use Rattle.jul_cover.specs.PackedSets.{pack_at}
use Rattle.jul_cover.specs.Offers.{AreOffers, Offers, HasLowered, HasOffered}

-- ---- one application

pub lowered_none : (number : ℕ) (s : Seat) → HasLowered number [] s s
lowered_none number s = record {
  entries = [];
  are = record { vertices = refl; numbers = λ k d lt. absurd (omega arith) };
  seat_is = ap (λ l. record { home = s.home; root = s.root; out = s.out; log = l }) (sym (append-nil s.log));
}

pub lowered_more : (number : ℕ) (elements : List ℕ) (i r : ℕ) (old mid new : Seat) → i < length elements → HasLowered number (take i elements) old mid →
    new ≡ logs mid (lowering (get_or elements i 0) number r) → HasLowered number (take (i + 1) elements) old new
lowered_more number elements i r old mid new lt h logged =
    let e : Entry = lowering (get_or elements i 0) number r in record {
      entries = h.entries ++ e ∷ [];
      are = record {
        vertices = map-append (λ (x : Entry). x.vertex) h.entries (e ∷ []) ∙ ap (λ l. l ++ get_or elements i 0 ∷ []) h.are.vertices ∙ sym (take_more elements i 0 lt);
        numbers = All-push (λ (x : Entry). x.number ≡ number) h.entries e h.are.numbers refl;
      };
      seat_is = logged ∙ ap (λ (s : Seat). logs s e) h.seat_is
          ∙ ap (λ l. record { home = old.home; root = old.root; out = old.out; log = l }) (append_assoc old.log h.entries (e ∷ []));
    }

-- an application that lowered all of a pack gives what it should
pub offered : (p : PackedSets) (base s number : ℕ) (elements : List ℕ) (old new : Seat) → HasLowered number elements old new → number ≡ base + s → elements ≡ pack_at p s →
    HasAdded (λ (answer : Bool) added. (answer ≡ false) × Offers p base s added) (old.log ∷ []) (new.log ∷ []) false
offered p base s number elements old new h number_is elements_are = record {
  added = h.entries ∷ [];
  gives_out = (
    refl,
    record {
      entries = h.entries;
      are = subst (λ n. AreOffers n (pack_at p s) h.entries) number_is (subst (λ l. AreOffers number l h.entries) elements_are h.are);
      added_is = refl;
    },
  );
  log_is = ap (λ (t : Seat). t.log ∷ []) h.seat_is;
}

-- ---- its entries

-- each element of the pack has one with the number
entry_of : (number e : ℕ) (log : List Entry) → All (λ (x : Entry). x.number ≡ number) log → Contains (map (λ (x : Entry). x.vertex) log) e → 0 < weigh (is_at e number) log
entry_of number e [] numbers (k, lt, is) = absurd (omega (arith, lt))
entry_of number e (x ∷ xs) numbers there =
    elim (Contains-cons_cases x.vertex (map (λ (y : Entry). y.vertex) xs) e there) [
      | inl same ↦ omega (arith, at_here e number x same (All-head (λ (y : Entry). y.number ≡ number) x xs numbers))
      | inr later ↦ omega (arith, entry_of number e xs (All-tail (λ (y : Entry). y.number ≡ number) x xs numbers) later)
    ]

-- and an entry with a number is one of these
entry_from : (number e n : ℕ) (log : List Entry) → All (λ (x : Entry). x.number ≡ number) log → 0 < weigh (is_at e n) log →
    Contains (map (λ (x : Entry). x.vertex) log) e × (n ≡ number)
entry_from number e n [] numbers some = absurd (omega (arith, some))
entry_from number e n (x ∷ xs) numbers some =
    elim (cases_lt 0 (is_at e n x)) [
      | inl here ↦
          let parts : (x.vertex ≡ e) × (x.number ≡ n) = at_parts e n x here in
          ((zero, omega arith, parts.0), sym parts.1 ∙ All-head (λ (y : Entry). y.number ≡ number) x xs numbers)
      | inr none ↦
          let rest = entry_from number e n xs (All-tail (λ (y : Entry). y.number ≡ number) x xs numbers) (omega (arith, some, none)) in
          let (k, lt, is) = rest.0 in
          ((suc k, omega arith, is), rest.1)
    ]

-- ---- all applications

abbrev SetDone : Type 0
SetDone = Done ℕ

abbrev added_of : List SetDone → List Log
added_of done = map (λ (d : SetDone). d.added) done

abbrev sets_of : List SetDone → List ℕ
sets_of done = map (λ (d : SetDone). d.to) done

-- one of the applications, of which P holds
record OneOf (done : List SetDone) (P : SetDone → Type 0) : Type 0 where
  one : SetDone
  there : Contains done one
  holds : P one

first : (P : SetDone → Type 0) (d : SetDone) (ds : List SetDone) → P d → OneOf (d ∷ ds) P
first P d ds h = record { one = d; there = (zero, omega arith, refl); holds = h }

later : (P : SetDone → Type 0) (d : SetDone) (ds : List SetDone) → OneOf ds P → OneOf (d ∷ ds) P
later P d ds h = let (k, lt, is) = h.there in record { one = h.one; there = (suc k, omega arith, is); holds = h.holds }

at_set : (done : List SetDone) (s : ℕ) → has (sets_of done) s ≡ true → OneOf done (λ d. d.to ≡ s)
at_set [] s h = absurd (cc)
at_set (d ∷ ds) s h =
    elim (cases_Bool (eqb d.to s)) [
      | inl same ↦ first (λ e. e.to ≡ s) d ds (eqb-true d.to s same)
      | inr other ↦ later (λ e. e.to ≡ s) d ds (at_set ds s (rw other at h))
    ]

set_of_done : (done : List SetDone) (d : SetDone) → Contains done d → Contains (sets_of done) d.to
set_of_done [] d (k, lt, is) = absurd (omega (arith, lt))
set_of_done (x ∷ xs) d (zero, lt, is) = (zero, omega arith, ap (λ (y : SetDone). y.to) is)
set_of_done (x ∷ xs) d (suc k, lt, is) =
    let (j, lt', is') = set_of_done xs d (k, omega arith, is) in
    (suc j, omega arith, is')

-- lists with the same items have the same members
same_members : (xs ys : List ℕ) (s : ℕ) → SameItems xs ys → Contains xs s → Contains ys s
same_members xs ys s same there =
    let test : ℕ → Bool = λ x. eqb x s in
    let some : 0 < count_by test xs = count_by-positive test xs s (has-from_Contains xs s there) (eq-eqb s s refl) in
    let as_many : count_by test xs ≡ count_by test ys = same (λ x. cond (test x) 1 0) in
    elim (none_or_one test ys) [
      | inl none ↦ absurd (omega arith)
      | inr (x, held, is) ↦ subst (Contains ys) (eqb-true x s is) (Contains-from_has ys x held)
    ]

added_by : (f : Entry → ℕ) (done : List SetDone) → 0 < weigh f (entries_of (added_of done)) → OneOf done (λ d. 0 < weigh f (first_part d.added))
added_by f [] some = absurd (omega (arith, some))
added_by f (d ∷ ds) some =
    elim (cases_lt 0 (weigh f (first_part d.added))) [
      | inl here ↦ first (λ e. 0 < weigh f (first_part e.added)) d ds here
      | inr none ↦ later (λ e. 0 < weigh f (first_part e.added)) d ds (added_by f ds (omega (arith, some, none, weigh-append f (first_part d.added) (entries_of (added_of ds)))))
    ]

entries_have : (f : Entry → ℕ) (done : List SetDone) (d : SetDone) → Contains done d → weigh f (first_part d.added) ≤ weigh f (entries_of (added_of done))
entries_have f [] d (k, lt, is) = absurd (omega (arith, lt))
entries_have f (x ∷ xs) d (zero, lt, is) =
    let same : weigh f (first_part x.added) ≡ weigh f (first_part d.added) = ap (λ (e : SetDone). weigh f (first_part e.added)) is in
    omega (arith, same, weigh-append f (first_part x.added) (entries_of (added_of xs)))
entries_have f (x ∷ xs) d (suc k, lt, is) =
    let rest : weigh f (first_part d.added) ≤ weigh f (entries_of (added_of xs)) = entries_have f xs d (k, omega arith, is) in
    omega (arith, rest, weigh-append f (first_part x.added) (entries_of (added_of xs)))

module _ (p : PackedSets) (base : ℕ) (members hit : List ℕ) (old new : Seat)
    (applied : AppliedOnce (λ s answer added. (answer ≡ false) × Offers p base s added) (λ v. v) members (old.log ∷ []) (new.log ∷ []) hit) (home : new.home ≡ old.home) where
  gave : (d : SetDone) → Contains applied.done d → Offers p base d.to d.added
  gave d there = (All-contains (λ (e : SetDone). (e.answer ≡ false) × Offers p base e.to e.added) applied.done d applied.by.each there).1

  grew : new.log ≡ old.log ++ entries_of (added_of applied.done)
  grew = ap first_part (applied.by.log_is ∙ one_part old.log (added_of applied.done) (All-map HasOnePart (λ (d : SetDone). d.added) applied.done applied.parts))

  word_is : (e : ℕ) → word_of new e ≡ least e (start_of old.home e) (old.log ++ entries_of (added_of applied.done))
  word_is e = ap (λ h. least e (start_of h e) new.log) home ∙ ap (least e (start_of old.home e)) grew

  falls : (e : ℕ) → word_of new e ≤ word_of old e
  falls e = omega (arith, word_is e, least_falls e (start_of old.home e) old.log (entries_of (added_of applied.done)))

  lower : (e s : ℕ) → Contains members s → Contains (pack_at p s) e → word_of new e ≤ base + s
  lower e s member held =
      let back : SameItems members (sets_of applied.done) = λ w. sym (applied.once w) in
      let o : OneOf applied.done (λ d. d.to ≡ s) = at_set applied.done s (has-from_Contains (sets_of applied.done) s (same_members members (sets_of applied.done) s back member)) in
      let r : Offers p base s o.one.added = subst (λ k. Offers p base k o.one.added) o.holds (gave o.one o.there) in
      let some : 0 < weigh (is_at e (base + s)) r.entries = entry_of (base + s) e r.entries r.are.numbers (subst (λ l. Contains l e) (sym r.are.vertices) held) in
      let first_is : weigh (is_at e (base + s)) (first_part o.one.added) ≡ weigh (is_at e (base + s)) r.entries = ap (λ l. weigh (is_at e (base + s)) (first_part l)) r.added_is in
      let le : least e (start_of old.home e) (old.log ++ entries_of (added_of applied.done)) ≤ base + s =
      least_offered e (start_of old.home e) (base + s) old.log (entries_of (added_of applied.done)) (omega (arith, some, first_is, entries_have (is_at e (base + s)) applied.done o.one o.there)) in
      omega (arith, word_is e, le)

  each : (e : ℕ) → (word_of new e ≡ word_of old e) ⊎ ((s : ℕ) × Contains members s × Contains (pack_at p s) e × (word_of new e ≡ base + s))
  each e =
      let start : ℕ = start_of old.home e in
      let n : ℕ = least e start (old.log ++ entries_of (added_of applied.done)) in
      elim (cases_lt n (word_of old e)) [
        | inr same ↦ inl (omega (arith, word_is e, same, least_falls e start old.log (entries_of (added_of applied.done))))
        | inl fell ↦
            let o : OneOf applied.done (λ d. 0 < weigh (is_at e n) (first_part d.added)) =
            added_by (is_at e n) applied.done (least_fell e start old.log (entries_of (added_of applied.done)) fell) in
            let r : Offers p base o.one.to o.one.added = gave o.one o.there in
            let first_is : weigh (is_at e n) (first_part o.one.added) ≡ weigh (is_at e n) r.entries = ap (λ l. weigh (is_at e n) (first_part l)) r.added_is in
            let shown : Contains (map (λ (x : Entry). x.vertex) r.entries) e × (n ≡ base + o.one.to) =
            entry_from (base + o.one.to) e n r.entries r.are.numbers (omega (arith, first_is, o.holds)) in
            inr (
              o.one.to,
              same_members (sets_of applied.done) members o.one.to applied.once (set_of_done applied.done o.one o.there),
              subst (λ l. Contains l e) r.are.vertices shown.0,
              word_is e ∙ shown.1,
            )
      ]

  pub has_offered : IsAlone new → HasOffered members (pack_at p) base old new
  has_offered alone = record { home = home; alone = alone; falls = falls; lower = lower; each = each }

-- the same from what a map over members says of its tokens
pub all_offered : (p : PackedSets) (base : ℕ) (members hit : List ℕ) (old new : Seat) →
    AppliedOnce (λ s answer added. (answer ≡ false) × Offers p base s added) (λ v. v) members (old.log ∷ []) (new.log ∷ []) hit →
    new.home ∷ [] ≡ old.home ∷ [] → new.root ≡ true → new.out ≡ 0 → HasOffered members (pack_at p) base old new
all_offered p base members hit old new applied homes root out =
    let home : new.home ≡ old.home = cc in
    has_offered p base members hit old new applied home (root, out)
