use Rattle.std.proofs.Common.{◌≡◌, ◌∙◌, ℕ, ◌+◌, ◌*◌, ◌^◌, [], ◌∷◌, ◌++◌, leb, take, get_or, ap, sym}
use Rattle.std.specs.List.{filter}
use Rattle.std.proofs.lemmas.List.{append-nil}
use Rattle.std.proofs.lemmas.List.Elements.{filter_more}
use Rattle.std.proofs.lemmas.Bool.{cond-true, cond-false}
use Rattle.jul_words.specs.Least.{word_of}
use Rattle.jul_words.specs.Seats.{Seat}
use Rattle.jul_cover.specs.PackedSets.{pack_at}
use Rattle.jul_cover.specs.Choosing.{held_by}
use Rattle.jul_cover.proofs.choosing.chosen_sets.Goals as goal
use Rattle.jul_cover.proofs.choosing.chosen_sets.Goals.{then-reaches+in_ok-push, else-reaches}

pub loop-s-preserved : goal.loop-s-preserved
loop-s-preserved c =
    let s : ℕ = get_or c.args.active.now c.loop-s.s-index 0 in
    let test = λ (x : ℕ). leb (2 ^ c.args.bucket) (2 * held_by (word_of c.args.seat.now) (c.args.base + x) (pack_at c.args.packs.now x)) in
    let count_is : c.count_held-held.result ≡ held_by (word_of c.args.seat.now) (c.args.base + s) (pack_at c.args.packs.now s) =
    c.count_held-held.ensures.count ∙ ap (λ (t : Seat). held_by (word_of t) (c.args.base + c.from.result) c.pack_of.result.now) c.loop-s.invariant.0
    ∙ ap (λ k. held_by (word_of c.args.seat.now) (c.args.base + k) c.pack_of.result.now) c.from.ensures
    ∙ ap (held_by (word_of c.args.seat.now) (c.args.base + s)) c.pack_of.ensures.pack in
    let test_is : c.reaches.result ≡ test s = c.reaches.ensures ∙ ap (λ k. leb (2 ^ c.args.bucket) (2 * k)) count_is in
    let more = filter_more test c.args.active.now c.loop-s.s-index 0 c.loop-s-test.true in
    elim c.if-reaches.branch [
      | then-reaches+in_ok-push w ↦ (
        c.count_held-held.ensures.same ∙ c.loop-s.invariant.0,
        ap (λ v. v.items) w.chosen-is ∙ w.in_ok-push.ensures.items ∙ ap (λ l. l ++ s ∷ []) c.loop-s.invariant.1
            ∙ sym (more ∙ ap (λ l. filter test (take c.loop-s.s-index c.args.active.now) ++ l) (cond-true _ _ _ (sym test_is ∙ w.if-reaches.true))),
      )
      | else-reaches w ↦ (
        c.count_held-held.ensures.same ∙ c.loop-s.invariant.0,
        ap (λ v. v.items) w.chosen-is ∙ c.loop-s.invariant.1
            ∙ sym (more ∙ ap (λ l. filter test (take c.loop-s.s-index c.args.active.now) ++ l) (cond-false _ _ _ (sym test_is ∙ w.if-reaches.false)) ∙ append-nil _),
      )
    ]
