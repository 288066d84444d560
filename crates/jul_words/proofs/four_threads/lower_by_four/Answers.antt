use Rattle.std.proofs.Common.{ap, [], ◌∷◌, replicate}
use Rattle.jul_words.specs.Seats.{home}
use Rattle.jul_words.proofs.Appending.{are_all, by_steps}
use Rattle.jul_words.proofs.four_threads.lower_by_four.Goals as goal

pub returns : goal.returns
returns g c = let made = c.lower_in_threads-first.result in let told = c.lower_in_threads-first.ensures in
    by_steps (home c.in_ok-words.words (c.args.start ∷ []) (replicate 1 0)) c.in_ok-words.root c.split-first.new.seat c.split-second.new.seat c.split-third.new.seat c.split-fourth.new.seat
    made.0.0 made.0.1 made.1.0 made.1.1 c.join.new.seat c.join-2.new.seat c.join-3.new.seat c.join-4.new.seat
    c.args.a.now c.args.b.now c.args.c.now c.args.d.now c.load.result
    c.in_ok-words.ensures.root c.split-first.ensures.root c.split-second.ensures.root c.split-third.ensures.root c.split-fourth.ensures.root
    c.join.ensures.joined c.join-2.ensures.joined c.join-3.ensures.joined c.join-4.ensures.joined
    (are_all c.split-first.result made.0.0 c.args.a.now (ap (λ s. s.log) c.split-first.ensures.part) told.first)
    (are_all c.split-second.result made.0.1 c.args.b.now (ap (λ s. s.log) c.split-second.ensures.part) told.second)
    (are_all c.split-third.result made.1.0 c.args.c.now (ap (λ s. s.log) c.split-third.ensures.part) told.third)
    (are_all c.split-fourth.result made.1.1 c.args.d.now (ap (λ s. s.log) c.split-fourth.ensures.part) told.fourth)
    c.load.ensures.exact
