use Rattle.std.proofs.Common.{[], length, sym, subst}
use Rattle.jul_text.specs.Tokens.{tokens}
use Rattle.jul_adj.specs.Reading.{read_tokens, Gives}
use Rattle.jul_adj.proofs.LawfulLaws.{given_is_lawful}
use Rattle.jul_adj.proofs.StreamLaws.{short_says}
use Rattle.jul_adj.proofs.reading.read_graph.Goals as goal
use Rattle.jul_adj.proofs.reading.read_graph.Goals.{After-finish}

said : (c : After-finish) → Gives c.finish.result (read_tokens (tokens c.args.bytes.now) (length c.args.bytes.now))
said c = c.finish.ensures c.args.bytes.now (c.in_ok-feed_pieces.ensures.taken [] c.new-intake.ensures.taken)

pub returns-clause-exact : goal.returns-clause-exact
returns-clause-exact c =
    subst (Gives c.finish.result) (sym (short_says c.args.bytes.now c.args.limit c.if-bytes-limit.false)) (said c)

pub returns-clause-lawful : goal.returns-clause-lawful
returns-clause-lawful c = given_is_lawful (tokens c.args.bytes.now) (length c.args.bytes.now) c.finish.result (said c)
