use Rattle.std.proofs.Common.{◌∙◌, map}
use Rattle.std.specs.String.{string_bytes}
use Rattle.jul_query.proofs.CommandLaws.{split_ok, split_err}
use Rattle.jul_query.proofs.ReadingLaws.{split_plain}
use Rattle.jul_query.proofs.command_line.split_words.Goals as goal

pub returns-in-Ok : goal.returns-in-Ok
returns-in-Ok c =
    let taken = split_ok _ _ _ _ c.in_ok-command.ensures c.in-Ok.ensures.kinds c.in-Ok.ensures.matches c.line_of.ensures in
    record { command = taken; plain = taken ∙ split_plain (map string_bytes c.args.words.now) }

pub returns : goal.returns
returns c =
    let refused = split_err _ _ c.in-Err.error c.in_ok-command.ensures c.in-Err.ensures.kinds (λ e. c.in_default.not-OutOfMemory (c.kind.ensures ∙ e)) in
    record { command = refused; plain = refused ∙ split_plain (map string_bytes c.args.words.now) }
