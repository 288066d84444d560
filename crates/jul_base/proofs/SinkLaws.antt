-- What was appended in parts was appended as a whole.
use Rattle.std.proofs.Common.{◌≡◌, ℕ, ◌+◌, ◌<◌, ◌≤◌, List, [], ◌++◌, length, take, drop, Option, Some, None, refl, sym, ◌∙◌, subst, ap, arith, inl, inr, append_assoc}
use Rattle.std.specs.Option.{option_map}
use Rattle.std.proofs.lemmas.List.{append-nil, take_all, length-append, take-append-le}
use Rattle.std.proofs.Math.Seq.{take-add, take-append-add}
use Rattle.jul_base.specs.Sinks.{SinkState, Rose, Appended, AppendedPart, FailedWriting, IsSent}

abbrev then_text : List ℕ → Option (List ℕ) → Option (List ℕ)
then_text text w = option_map (λ before. before ++ text) w

then_text-nil : (w : Option (List ℕ)) → then_text [] w ≡ w
then_text-nil None = refl
then_text-nil (Some xs) = ap Some (append-nil xs)

then_text-append : (xs ys : List ℕ) (w : Option (List ℕ)) → then_text ys (then_text xs w) ≡ then_text (xs ++ ys) w
then_text-append xs ys None = refl
then_text-append xs ys (Some b) = ap Some (append_assoc b xs ys)

-- nothing was appended
pub Appended-none : (a b : SinkState) → b.written ≡ a.written → Appended a b []
Appended-none a b same = record { grown = same ∙ sym (then_text-nil a.written) }

-- one text after another
pub Appended-then : (a b c : SinkState) (xs ys : List ℕ) → Appended a b xs → Appended b c ys → Appended a c (xs ++ ys)
Appended-then a b c xs ys first second = record { grown = second.grown ∙ ap (then_text ys) first.grown ∙ then_text-append xs ys a.written }

-- the next part of a text
pub Appended-take : (a b c : SinkState) (text : List ℕ) (i n : ℕ) → Appended a b (take i text) → Appended b c (take n (drop i text)) → Appended a c (take (i + n) text)
Appended-take a b c text i n first second =
    subst (Appended a c) (sym (take-add i n text)) (Appended-then a b c (take i text) (take n (drop i text)) first second)

-- the whole text
pub Appended-all : (a b : SinkState) (text : List ℕ) (i : ℕ) → length text ≤ i → Appended a b (take i text) → Appended a b text
Appended-all a b text i all part = subst (Appended a b) (take_all i text all) part

-- nothing came behind a part that isn't the whole
pub AppendedPart-stop : (a b c : SinkState) (text : List ℕ) (i : ℕ) → i < length text → Appended a b (take i text) → c.written ≡ b.written → AppendedPart a c text
AppendedPart-stop a b c text i lt part same = record { count = i; short = lt; part = record { grown = same ∙ part.grown } }

-- a part of a text is a part of a longer one
pub AppendedPart-longer : (a b : SinkState) (text more : List ℕ) → AppendedPart a b text → AppendedPart a b (text ++ more)
AppendedPart-longer a b text more p = record {
  count = p.count;
  short = omega (arith, p.short, length-append text more);
  part = subst (Appended a b) (sym (take-append-le p.count text more (omega (arith, p.short)))) p.part;
}

-- a part of what comes behind a text
pub AppendedPart-then : (a b c : SinkState) (text more : List ℕ) → Appended a b text → AppendedPart b c more → AppendedPart a c (text ++ more)
AppendedPart-then a b c text more first p = record {
  count = length text + p.count;
  short = omega (arith, p.short, length-append text more);
  part = subst (Appended a c) (sym (take-append-add text more p.count)) (Appended-then a b c text (take p.count more) first p.part);
}

pub Rose-after : (a b c : ℕ) → a ≤ b → Rose b c → Rose a c
Rose-after a b c le (inl lt) = inl (omega arith)
Rose-after a b c le (inr e) = inr e

-- ---- blocks

-- a text behind a text that was sent but for a block
pub IsSent-then : (a b c : SinkState) (block block' text piece : List ℕ) → IsSent a b block text → IsSent b c block' (block ++ piece) → IsSent a c block' (text ++ piece)
IsSent-then a b c block block' text piece first second = record {
  sent = first.sent ++ second.sent;
  whole =
      append_assoc first.sent second.sent block'
      ∙ ap (λ xs. first.sent ++ xs) second.whole
      ∙ sym (append_assoc first.sent block piece)
      ∙ ap (λ xs. xs ++ piece) first.whole;
  appended = Appended-then a b c first.sent second.sent first.appended second.appended;
}

pub IsSent-start : (a : SinkState) → IsSent a a [] []
IsSent-start a = record { sent = []; whole = refl; appended = Appended-none a a refl }

-- the block is written too
pub IsSent-end : (a b c : SinkState) (block text : List ℕ) → IsSent a b block text → Appended b c block → Appended a c text
IsSent-end a b c block text sent last = subst (Appended a c) sent.whole (Appended-then a b c sent.sent block sent.appended last)

-- a failure behind a text that was sent but for a block
pub FailedWriting-then : (a b c : SinkState) (block text piece : List ℕ) → a.faults ≤ b.faults → IsSent a b block text → FailedWriting b c (block ++ piece) → FailedWriting a c (text ++ piece)
FailedWriting-then a b c block text piece le sent failed = record {
  rose = Rose-after a.faults b.faults c.faults le failed.rose;
  part =
      let grouped : sent.sent ++ (block ++ piece) ≡ text ++ piece = sym (append_assoc sent.sent block piece) ∙ ap (λ xs. xs ++ piece) sent.whole in
      subst (AppendedPart a c) grouped (AppendedPart-then a b c sent.sent (block ++ piece) sent.appended failed.part);
}

-- a failure of a text is one of a longer text
pub FailedWriting-longer : (a b : SinkState) (text more : List ℕ) → FailedWriting a b text → FailedWriting a b (text ++ more)
FailedWriting-longer a b text more failed = record { rose = failed.rose; part = AppendedPart-longer a b text more failed.part }

-- a failure behind a text that was appended
pub FailedWriting-after : (a b c : SinkState) (text more : List ℕ) → a.faults ≤ b.faults → Appended a b text → FailedWriting b c more → FailedWriting a c (text ++ more)
FailedWriting-after a b c text more le first failed = record {
  rose = Rose-after a.faults b.faults c.faults le failed.rose;
  part = AppendedPart-then a b c text more first failed.part;
}

-- all of a text was sent, and the block is empty
pub IsSent-whole : (a b : SinkState) (block text : List ℕ) → block ≡ [] → Appended a b text → IsSent a b block text
IsSent-whole a b block text empty all = record { sent = text; whole = ap (λ xs. text ++ xs) empty ∙ append-nil text; appended = all }
