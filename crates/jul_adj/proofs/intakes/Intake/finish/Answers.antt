use Rattle.std.proofs.Common.{◌≡◌, ℕ, length, List, Some, None, sym, ◌∙◌, ap, subst}
use Rattle.jul_text.specs.Tokens.{tokens}
use Rattle.jul_text.specs.Feeding.{last_mark}
use Rattle.jul_adj.specs.Readings.{HasRead}
use Rattle.jul_adj.specs.Intakes.{HasTaken}
use Rattle.jul_adj.specs.Reading.{read_tokens}
use Rattle.jul_adj.proofs.IntakeLaws.{last_taken, none_taken}
use Rattle.jul_adj.proofs.intakes.Intake.finish.Goals as goal
use Rattle.jul_adj.proofs.intakes.Intake.finish.Goals.{After-finish-2, in-Some+in_ok-take, in_default}

said : (c : After-finish-2) (b : List ℕ) → HasTaken b c.args.self → c.finish-2.result ≡ read_tokens (tokens b) (length b)
said c b h =
    let last : c.finish.result ≡ last_mark b = c.finish.ensures b h.fed in
    let all : HasRead (tokens b) (length (tokens b)) c.match-finish.reading =
    elim c.match-finish.branch [
      | in-Some+in_ok-take w ↦
          subst (λ r. HasRead (tokens b) (length (tokens b)) r) (sym w.reading-is)
          (last_taken b c.args.self.reading w.take.new.self (Some w.in-Some.last) (sym w.in-Some.is ∙ last) h.read (λ ws token r are. w.in_ok-take.ensures ws token r are))
      | in_default w ↦
          subst (λ r. HasRead (tokens b) (length (tokens b)) r) (sym w.reading-is)
          (last_taken b c.args.self.reading c.args.self.reading None (sym w.in_default.is ∙ last) h.read (λ ws token r are. none_taken c.args.self.reading ws token r))
    ] in
    c.finish-2.ensures (tokens b) all ∙ ap (read_tokens (tokens b)) (c.count-len.ensures ∙ h.fed.count)

pub returns-in-Ok : goal.returns-in-Ok
returns-in-Ok c b h = sym (said ((goal.at.returns-in-Ok c).After-finish-2) b h) ∙ c.in-Ok.is

pub returns : goal.returns
returns c b h = sym (said ((goal.at.returns c).After-finish-2) b h) ∙ c.in-Err.is
