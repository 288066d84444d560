use Rattle.std.proofs.Common.{refl}
use Rattle.jul_query.specs.Asking.{problem_of}
use Rattle.jul_cmd.proofs.ResultLaws.{whole_text}
use Rattle.jul_cmd.proofs.VerdictLaws.{read_back_named}
use Rattle.jul_cmd.proofs.solving.solve_whole.Goals as goal

pub returns-clause-done : goal.returns-clause-done
returns-clause-done g c = record {
  suited = c.in_ok-columns.ensures.suited;
  done = refl;
  written = whole_text c.args.rows c.m-places.ensures.lawful (problem_of c.args.problem) c.in_ok-columns.columns c.m-places.result c.in_ok-sources.sources c.in_ok-columns.ensures.suited
      c.in_ok-columns.ensures.found c.m-places.ensures.count c.in_ok-sources.ensures.sources (read_back_named c.m-places.result _ _ c.in_ok-columns.columns c.as_slice.ensures c.is_read_back.ensures);
}
