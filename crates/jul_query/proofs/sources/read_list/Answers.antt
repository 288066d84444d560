use Rattle.std.proofs.Common.{◌≡◌, ◌∙◌, ◌≤◌, ℕ, List, length, drop, [], ◌∷◌, ◌++◌, sym, ap, subst, arith, lit<}
use Rattle.std.specs.List.Sorted.{IsStrictlyIncreasing}
use Rattle.std.proofs.lemmas.Iterator.Consumers.{YieldsList-turn, YieldsList-end, YieldsList-at}
use Rattle.std.proofs.lemmas.Iterator.Splits.{YieldsList-from_str_split}
use Rattle.std.proofs.lemmas.List.{at_drop_all, length_push}
use Rattle.jul_query.specs.Words.{parts_of, with_number}
use Rattle.jul_query.proofs.SourceLaws.{onward, onward-none, onward-some, too_long, no_sources, all_sources, AreNamedSources-in, IsStrictlyIncreasing-with_number}
use Rattle.jul_query.proofs.sources.read_list.Goals as goal

pub returns-then-count-eq-MAX_SOURCES-clause-value : goal.returns-then-count-eq-MAX_SOURCES-clause-value
returns-then-count-eq-MAX_SOURCES-clause-value c =
    let turn = YieldsList-turn (YieldsList-at c.into_iter-part-iterator.ensures.into_iter_gives (YieldsList-from_str_split 44 c.args.text.now (lit< tt) c.split-part-items.ensures.text c.split-part-items.ensures.has_more c.split-part-items.ensures.pattern)) c.loop-part.yielded _ c.loop-part.yielded_by _ _ c.in-Some.part c.in-Some.is c.next.ensures.steps in
    sym (too_long c.args.text.now (omega (arith, turn.0, c.loop-part.invariant.count)))

pub returns-in-None-number_in-clause-value : goal.returns-in-None-number_in-clause-value
returns-in-None-number_in-clause-value c =
    let turn = YieldsList-turn (YieldsList-at c.into_iter-part-iterator.ensures.into_iter_gives (YieldsList-from_str_split 44 c.args.text.now (lit< tt) c.split-part-items.ensures.text c.split-part-items.ensures.has_more c.split-part-items.ensures.pattern)) c.loop-part.yielded _ c.loop-part.yielded_by _ _ c.in-Some.part c.in-Some.is c.next.ensures.steps in
    sym (no_sources c.args.text.now (sym c.loop-part.invariant.rest
    ∙ onward-none c.loop-part.sources.items (parts_of c.args.text.now) (length c.loop-part.yielded) c.in-Some.part.now turn.0 turn.1 (sym c.in-None-number_in.ensures.value)))

pub loop-part-preserved : goal.loop-part-preserved
loop-part-preserved c =
    let turn = YieldsList-turn (YieldsList-at c.into_iter-part-iterator.ensures.into_iter_gives (YieldsList-from_str_split 44 c.args.text.now (lit< tt) c.split-part-items.ensures.text c.split-part-items.ensures.has_more c.split-part-items.ensures.pattern)) c.loop-part.yielded _ c.loop-part.yielded_by _ _ c.in-Some.part c.in-Some.is c.next.ensures.steps in
    let parts = parts_of c.args.text.now in
    let more = length_push c.loop-part.yielded c.in-Some.part in
    let put : c.put_number.new.numbers.items ≡ with_number c.loop-part.sources.items c.in-Some-number_in.source = c.in_ok-put_number-in-Some-number_in.ensures in
    let P : List ℕ → Type 0 = IsStrictlyIncreasing in
    record {
      count = omega (arith, more, c.loop-part.invariant.count);
      few = omega (arith, c.loop-part.invariant.few);
      increasing = subst P (sym put) (IsStrictlyIncreasing-with_number c.loop-part.sources.items c.in-Some-number_in.source c.loop-part.invariant.increasing);
      rest =
          ap (λ (xs : List ℕ). onward xs (drop (length (c.loop-part.yielded ++ c.in-Some.part ∷ [])) parts)) put
          ∙ ap (λ (k : ℕ). onward (with_number c.loop-part.sources.items c.in-Some-number_in.source) (drop k parts)) more
          ∙ sym (onward-some c.loop-part.sources.items parts (length c.loop-part.yielded) c.in-Some.part.now turn.0 turn.1 c.in-Some-number_in.source (sym c.in-Some-number_in.ensures.value))
          ∙ c.loop-part.invariant.rest;
    }

pub returns : goal.returns
returns c =
    let done = YieldsList-end (YieldsList-at c.into_iter-part-iterator.ensures.into_iter_gives (YieldsList-from_str_split 44 c.args.text.now (lit< tt) c.split-part-items.ensures.text c.split-part-items.ensures.has_more c.split-part-items.ensures.pattern)) c.loop-part.yielded _ c.loop-part.yielded_by _ _ c.in-None.is c.next.ensures.steps in
    let parts = parts_of c.args.text.now in
    let few : length parts ≤ 1024 = omega (arith, done.1, c.loop-part.invariant.count, c.loop-part.invariant.few) in
    let all = all_sources c.args.text.now c.loop-part.sources.items few
    (sym c.loop-part.invariant.rest ∙ at_drop_all (onward c.loop-part.sources.items) parts (length c.loop-part.yielded) (omega (arith, done.1))) in
    record { value = sym all; ranges = AreNamedSources-in c.args.text.now c.loop-part.sources.items all }
