use Rattle.std.proofs.Common.{ap}
use Rattle.jul_subset.specs.Chunks.{chunk_of}
use Rattle.jul_count.specs.Counting.{steps_of}
use Rattle.jul_count.proofs.AddingLaws.{run_adds}
use Rattle.jul_count.proofs.adding.AddJobJob.run.Goals as goal

pub returns-clause-gives : goal.returns-clause-gives
returns-clause-gives c =
    let j = c.args.self.now in
    let r = run_adds _ (steps_of j.rows.now (chunk_of j.members.now j.size c.args.chunk)) _ _ _ _ _ c.in_ok-push_members.ensures.pushed c.new-noted.ensures.items (ap (steps_of j.rows.now) c.chunk_at-members.ensures) in
    record { added = r.0; gives_out = r.1; log_is = r.2 }
