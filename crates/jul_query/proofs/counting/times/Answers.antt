use Rattle.std.proofs.Common.{rules, ◌≡◌, ◌≤◌, ◌∙◌, ◌+◌, ℕ, Bool, true, false, cond, codes, arith, sym}
use Rattle.std.specs.String.{string_bytes}
use Rattle.std.specs.Str.{bytes_eq}
use Rattle.jul_query.specs.Counting.{counts}
use Rattle.jul_query.proofs.CountingLaws.{at_last, at_end, at_skipped, at_word}
use Rattle.jul_query.proofs.counting.times.Goals as goal
use Rattle.jul_query.proofs.counting.times.Goals.{then-is_skipped, else-is_skipped+else-eq, then-counts, else-counts}

pub returns-then-eq : goal.returns-then-eq
returns-then-eq c =
    let dashes : bytes_eq c.as_str-word.result.now (codes "--") ≡ true = search rules in
    at_end string_bytes c.args.name.now c.args.words.now c.loop-word.word-index c.word-item.result c.as_str-word.result.now c.loop-word-test.true c.word-item.is c.as_str-word.ensures.value
    _ c.loop-word.count c.loop-word.is_skipped c.if-is_skipped.false dashes c.loop-word.invariant.rest

pub returns : goal.returns
returns c = at_last string_bytes c.args.name.now c.args.words.now c.loop-word.word-index _ c.loop-word.count c.loop-word.is_skipped c.loop-word-test.false c.loop-word.invariant.rest

-- one more where the word counts
more : (count before : ℕ) (b : Bool) → b ≡ true → count ≡ before + 1 → count ≡ before + cond b 1 0
more count before b e h = rw e h

no_more : (count before : ℕ) (b : Bool) → b ≡ false → count ≡ before → count ≡ before + cond b 1 0
no_more count before b e h = rw e (omega (arith, h))

pub loop-word-preserved : goal.loop-word-preserved
loop-word-preserved c =
    let i = c.loop-word.word-index in
    let word = c.as_str-word.result.now in
    let name = c.args.name.now in
    elim c.if-is_skipped.branch [
      | then-is_skipped w ↦ record {
        few = omega (arith, w.count-is, c.loop-word.invariant.few);
        rest = at_skipped string_bytes name c.args.words.now i c.word-item.result word c.loop-word-test.true c.word-item.is c.as_str-word.ensures.value
            _ c.loop-word.count _ c.loop-word.is_skipped _ w.if-is_skipped.true w.is_skipped-is w.count-is c.loop-word.invariant.rest;
      }
      | else-is_skipped+else-eq w ↦
          let no_dashes : bytes_eq word (codes "--") ≡ false = search rules in
          let counted : w.if-counts.count ≡ c.loop-word.count + cond (counts name word) 1 0 = elim w.if-counts.branch [
            | then-counts v ↦ more _ _ (counts name word) (sym w.counts.ensures ∙ v.if-counts.true) v.count-is
            | else-counts v ↦ no_more _ _ (counts name word) (sym w.counts.ensures ∙ v.if-counts.false) v.count-is
          ] in
          let few : w.if-counts.count ≤ i + 1 = elim w.if-counts.branch [
            | then-counts v ↦ omega (arith, v.count-is, c.loop-word.invariant.few)
            | else-counts v ↦ omega (arith, v.count-is, c.loop-word.invariant.few)
          ] in
          record {
            few = omega (arith, w.count-is, few);
            rest = at_word string_bytes name c.args.words.now i c.word-item.result word c.loop-word-test.true c.word-item.is c.as_str-word.ensures.value
                _ c.loop-word.count _ c.loop-word.is_skipped _ w.if-is_skipped.false no_dashes (w.is_skipped-is ∙ w.is_option-is_skipped.ensures) (w.count-is ∙ counted) c.loop-word.invariant.rest;
          }
    ]
