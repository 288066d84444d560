use Rattle.std.proofs.Common.{map, string_bytes}
use Rattle.jul_query.specs.Asking.{asked_by}
use Rattle.jul_query.specs.Words.{asked}
use Rattle.jul_cmd.proofs.AnswerLaws.{refused_cause}
use Rattle.jul_cmd.proofs.QueryLaws.{taken_as}
use Rattle.jul_cmd.proofs.running.answer.Goals as goal

pub returns-in-Err-find_reply-clause-cause : goal.returns-in-Err-find_reply-clause-cause
returns-in-Err-find_reply-clause-cause g c =
    let words = map string_bytes c.args.words.now in
    refused_cause words (asked_by c.in-Ok-Some.query) _ _ _ c.in-Err-find_reply.status
    (taken_as c.in-Ok-Some.field-0 c.in-Ok-Some.query (asked words) c.in-Ok-Some.field-0-is c.in-Ok-Some.ensures.asked) c.in-Err-find_reply.ensures.refused
