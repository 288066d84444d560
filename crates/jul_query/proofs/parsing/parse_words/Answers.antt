use Rattle.std.proofs.Common.{◌∙◌, Option, ap}
use Rattle.std.specs.Option.{option_map, option_and_then}
use Rattle.jul_query.specs.declared.command_line.CommandLine.{CommandLine}
use Rattle.jul_query.specs.CommandLines.{split_by}
use Rattle.jul_query.specs.Words.{asked_split}
use Rattle.jul_query.proofs.QueryLaws.{IsAsked-ok, asked_twice, asked_line}
use Rattle.jul_query.proofs.parsing.parse_words.Goals as goal

pub returns-then-is_counted_twice-clause-asked : goal.returns-then-is_counted_twice-clause-asked
returns-then-is_counted_twice-clause-asked c = asked_twice _ _ c.is_counted_twice.ensures c.if-is_counted_twice.true

pub returns-in-Some-clause-asked : goal.returns-in-Some-clause-asked
returns-in-Some-clause-asked c =
    IsAsked-ok c.read_line.result _ _ c.read_line.ensures.asked
    (asked_line _ _ c.in_ok-line.field-0 c.is_counted_twice.ensures c.if-is_counted_twice.false c.in_ok-line.ensures.plain
    ∙ ap (λ (o : Option CommandLine). option_and_then asked_split (option_map split_by o)) c.in-Some.is)

pub returns-in-None-clause-asked : goal.returns-in-None-clause-asked
returns-in-None-clause-asked c =
    asked_line _ _ c.in_ok-line.field-0 c.is_counted_twice.ensures c.if-is_counted_twice.false c.in_ok-line.ensures.plain
    ∙ ap (λ (o : Option CommandLine). option_and_then asked_split (option_map split_by o)) c.in-None.is
