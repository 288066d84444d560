-- A file that comes in pieces.
use Rattle.std.proofs.Common.{◌≡◌, ℕ, zero, suc, true, slice_range, refl, ◌+◌, ◌<◌, ◌≤◌, List, [], ◌∷◌, ◌++◌, map, ◌-◌, length, get_or, take, drop, sym, ◌∙◌, subst, ap, arith, length-append, Option}
use Rattle.std.specs.Prelude.{Result, Ok, Err, OnOk}
use Rattle.std.proofs.Math.Seq.{take-add}
use Rattle.std.proofs.lemmas.List.{length-map, get_or-map, get_or_append_left, get_or-append-add, append-nil, append_assoc, take_all, take-append-drop, length-drop, length-take-le, get_or-take}
use Rattle.jul_text.specs.Tokens.{is_white}
use Rattle.jul_text.specs.Cuts.{FollowsWhite, EndsWhite}
use Rattle.jul_text.specs.declared.shapes.Mark.{Mark}
use Rattle.jul_text.specs.Tokens.{Word, tokens, tokens_from}
use Rattle.jul_text.specs.Scanning.{no_word, word_at}
use Rattle.jul_text.specs.Shapes.{shape, mark_at, marks_from}
use Rattle.jul_text.specs.Numbers.{AreNumbers}
use Rattle.jul_adj.specs.Values.{HaveValues}
use Rattle.jul_text.specs.Feeding.{IsFed, ended_marks, last_mark, as_list, GrowAlike}
use Rattle.jul_text.proofs.FeederLaws.{all_of}
use Rattle.jul_adj.specs.Storing.{AreMarks}
use Rattle.jul_adj.specs.Readings.{HasRead}
use Rattle.jul_adj.specs.declared.intakes.Intake.{Intake}
use Rattle.jul_adj.specs.Intakes.{HasTaken}
use Rattle.jul_adj.specs.declared.readings.Reading.{Reading}

-- the marks of all tokens of a text
pub all_marks : (ws : List Word) (ms : List Mark) → map (mark_at 0) ws ≡ ms → AreMarks ws 0 ms
all_marks ws ms e =
    let size : length ms ≡ length ws = ap length (sym e) ∙ length-map ws (mark_at 0) in
    record {
      there = omega (arith, size);
      each = λ k d lt. ap (λ l. get_or l k d) (sym e) ∙ get_or-map (mark_at 0) ws k no_word d (omega (arith, size, lt)) ∙ ap (λ j. mark_at 0 (word_at ws j)) {x = k} {y = 0 + k} (omega arith);
    }

module _ (ws : List Word) (token : ℕ) (before more : List Mark) (are : AreMarks ws token (before ++ more)) where
  size : length (before ++ more) ≡ length before + length more
  size = length-append before more

  pub marks_first : AreMarks ws token before
  marks_first = record {
    there = omega (arith, are.there, size);
    each = λ k d lt. sym (get_or_append_left before more d k lt) ∙ are.each k d (omega (arith, size, lt));
  }

  pub marks_next : AreMarks ws (token + length before) more
  marks_next = record {
    there = omega (arith, are.there, size);
    each = λ k d lt. sym (get_or-append-add before more k d) ∙ are.each (length before + k) d (omega (arith, size, lt)) ∙ ap (λ j. mark_at 0 (word_at ws j)) {x = token + (length before + k)} {y = token + length before + k} (omega arith);
  }

-- what a reader has read after more marks
pub read_more : (before more : List Mark) (old new : Reading) → ((ws : List Word) → AreMarks ws 0 before → HasRead ws (length before) old) →
    ((ws : List Word) → HasRead ws (length before) old → AreMarks ws (length before) more → HasRead ws (length before + length more) new) →
    (ws : List Word) → AreMarks ws 0 (before ++ more) → HasRead ws (length (before ++ more)) new
read_more before more old new read next ws are =
    subst (λ n. HasRead ws n new) (sym (length-append before more)) (next ws (read ws (marks_first ws 0 before more are)) (subst (λ t. AreMarks ws t more) {x = 0 + length before} {y = length before} (omega arith) (marks_next ws 0 before more are)))

-- the marks that a piece adds to none
pub grown_from_none : (items e e' : List Mark) → GrowAlike [] items e e' → e' ≡ e ++ items
grown_from_none items e e' (more, is, is') = is' ∙ ap (λ ms. e ++ ms) (sym is)

-- the marks of the tokens of a whole text
pub whole_marks : (b : List ℕ) → AreMarks (tokens b) 0 (ended_marks b ++ as_list (last_mark b))
whole_marks b = all_marks (tokens b) (ended_marks b ++ as_list (last_mark b)) (all_of b)

pub whole_count : (b : List ℕ) → length (ended_marks b) + length (as_list (last_mark b)) ≡ length (tokens b)
whole_count b = sym (length-append (ended_marks b) (as_list (last_mark b))) ∙ ap length (sym (all_of b)) ∙ length-map (tokens b) (mark_at 0)

-- more bytes were taken, with these marks
pub more_taken : {Y E : Type 0} (r : Result Y E) (b piece : List ℕ) (old : Reading) (new : Intake) (items : List Mark) → IsFed new.feeder (b ++ piece) → ended_marks (b ++ piece) ≡ ended_marks b ++ items →
    ((ws : List Word) → AreMarks ws 0 (ended_marks b) → HasRead ws (length (ended_marks b)) old) →
    ((ws : List Word) (token : ℕ) → HasRead ws token old → AreMarks ws token items → OnOk r (HasRead ws (token + length items) new.reading)) →
    OnOk r (HasTaken (b ++ piece) new)
more_taken (Err e) b piece old new items fed more read next = tt
more_taken (Ok y) b piece old new items fed more read next = record {
  fed = fed;
  read = λ ws are.
      subst (λ ms. HasRead ws (length ms) new.reading) (sym more) (read_more (ended_marks b) items old new.reading read (λ ws h m. next ws (length (ended_marks b)) h m) ws (subst (AreMarks ws 0) more are));
}

-- the last token was taken too
pub last_taken : (b : List ℕ) (old new : Reading) (last : Option Mark) → last ≡ last_mark b → ((ws : List Word) → AreMarks ws 0 (ended_marks b) → HasRead ws (length (ended_marks b)) old) →
    ((ws : List Word) (token : ℕ) → HasRead ws token old → AreMarks ws token (as_list last) → HasRead ws (token + length (as_list last)) new) → HasRead (tokens b) (length (tokens b)) new
last_taken b old new last is read next =
    let all : length (ended_marks b) + length (as_list last) ≡ length (tokens b) = ap (λ o. length (ended_marks b) + length (as_list o)) is ∙ whole_count b in
    let marks : AreMarks (tokens b) 0 (ended_marks b ++ as_list last) = subst (λ o. AreMarks (tokens b) 0 (ended_marks b ++ as_list o)) (sym is) (whole_marks b) in
    subst (λ n. HasRead (tokens b) n new) all
    (next (tokens b) (length (ended_marks b)) (read (tokens b) (marks_first (tokens b) 0 (ended_marks b) (as_list last) marks))
    (subst (λ t. AreMarks (tokens b) t (as_list last)) {x = 0 + length (ended_marks b)} {y = length (ended_marks b)} (omega arith) (marks_next (tokens b) 0 (ended_marks b) (as_list last) marks)))

pub none_taken : (old : Reading) (ws : List Word) (token : ℕ) → HasRead ws token old → HasRead ws (token + 0) old
none_taken old ws token h = subst (λ t. HasRead ws t old) {x = token} {y = token + 0} (omega arith) h

-- ---- a block in parts

pub block_parts : (b block : List ℕ) (first last : ℕ) → first ≤ last → last ≤ length block → ((b ++ take first block) ++ take (last - first) (drop first block)) ++ take (length block - last) (drop last block) ≡ b ++ block
block_parts b block first last rising within =
    let size : first + (last - first) ≡ last = omega arith in
    let rest : take (length block - last) (drop last block) ≡ drop last block = take_all (length block - last) (drop last block) (omega (arith, length-drop last block)) in
    ap (λ xs. ((b ++ take first block) ++ take (last - first) (drop first block)) ++ xs) rest
    ∙ ap (λ xs. xs ++ drop last block) (append_assoc b (take first block) (take (last - first) (drop first block)) ∙ ap (λ xs. b ++ xs) (sym (take-add first (last - first) block) ∙ ap (λ k. take k block) {x = first + (last - first)} {y = last} size))
    ∙ append_assoc b (take last block) (drop last block)
    ∙ ap (λ xs. b ++ xs) (take-append-drop last block)

-- what ends behind a white byte
pub front_ends_white : (b block : List ℕ) (first : ℕ) → FollowsWhite block first → first ≤ length block → EndsWhite (b ++ take first block)
front_ends_white b block first follows within some =
    let size : length (take first block) ≡ first = length-take-le first block within in
    let all : length (b ++ take first block) ≡ length b + first = length-append b (take first block) ∙ ap (λ n. length b + n) size in
    let at : length (b ++ take first block) - 1 ≡ length b + (first - 1) = omega (arith, all, follows.some) in
    ap (λ k. is_white (get_or (b ++ take first block) k 0)) at
    ∙ ap is_white (get_or-append-add b (take first block) (first - 1) 0 ∙ get_or-take first block (first - 1) 0 (omega (arith, follows.some)))
    ∙ follows.white

-- ---- numbers

shapes_of : (base : ℕ) (ws : List Word) → map (λ (m : Mark). m.shape) (map (mark_at base) ws) ≡ map (λ (w : Word). shape w.text) ws
shapes_of base [] = refl
shapes_of base (w ∷ ws) = ap (λ ss. shape w.text ∷ ss) (shapes_of base ws)

-- more bytes were taken, which are numbers
pub numbers_taken : (b cut values : List ℕ) (bound base : ℕ) (old : Reading) (new : Intake) → AreNumbers cut bound values → IsFed new.feeder (b ++ cut) → ended_marks (b ++ cut) ≡ ended_marks b ++ marks_from base cut 0 →
    ((ws : List Word) → AreMarks ws 0 (ended_marks b) → HasRead ws (length (ended_marks b)) old) →
    ((ws : List Word) (token : ℕ) (marks : List Mark) → HasRead ws token old → AreMarks ws token marks → HaveValues marks values → HasRead ws (token + length marks) new.reading) → HasTaken (b ++ cut) new
numbers_taken b cut values bound base old new are fed more read next =
    more_taken {Y = ℕ} {E = ℕ} (Ok 0) b cut old new (marks_from base cut 0) fed more read
    (λ ws token h m. next ws token (marks_from base cut 0) h m (shapes_of base (tokens_from cut 0) ∙ sym are.shapes))

-- what was taken shows in the feeder and the reading alone
pub kept : (b : List ℕ) (old new : Intake) → new.feeder ≡ old.feeder → new.reading ≡ old.reading → HasTaken b old → HasTaken b new
kept b old new same same' h = record {
  fed = subst (λ f. IsFed f b) (sym same) h.fed;
  read = λ ws are. subst (HasRead ws (length (ended_marks b))) (sym same') (h.read ws are);
}

-- ---- cuts

-- bytes up to a place that is 0 or follows a white byte
pub front_white : (b text : List ℕ) (p : ℕ) → EndsWhite b → p ≤ length text → (0 < p → is_white (get_or text (p - 1) 0) ≡ true) → EndsWhite (b ++ take p text)
front_white b text zero white within behind = subst EndsWhite (sym (append-nil b)) white
front_white b text (suc p) white within behind = front_ends_white b text (suc p) (record { some = omega arith; white = behind (omega arith) }) within

-- one more cut
pub cut_taken : (b text : List ℕ) (from to : ℕ) → from ≤ to → (b ++ take from text) ++ slice_range text from to ≡ b ++ take to text
cut_taken b text from to rising =
    append_assoc b (take from text) (slice_range text from to)
    ∙ ap (λ xs. b ++ xs) (sym (take-add from (to - from) text) ∙ ap (λ k. take k text) {x = from + (to - from)} {y = to} (omega arith))
