use Rattle.std.proofs.Common.{◌<◌, ap, sym, subst, All}
use Rattle.std.specs.Prelude.{Contains}
use Rattle.jul_base.specs.Graph.{vertices}
use Rattle.jul_subset.specs.Chunks.{chunk_of}
use Rattle.jul_edge.specs.declared.functions.Direction.TheVariants.{Push}
use Rattle.jul_edge.specs.Pushes.{pushed_apps}
use Rattle.jul_edge.proofs.CoverLaws.{push_covers}
use Rattle.jul_edge.proofs.PushLaws.{chunk_members, run_gives}
use Rattle.jul_edge.proofs.NotingLaws.{may_note}
use Rattle.jul_edge.proofs.noting.NoteJobJob.run.Goals as goal

pub push_members-requires-clause-can : goal.push_members-requires-clause-can
push_members-requires-clause-can g c =
    let j = c.args.self.now in
    let may = c.requires.1 in
    let all = chunk_members (λ u. u < vertices j.visit.rows.now) j.members.now j.size c.args.chunk may.members_in in
    let here : All (λ u. (u < vertices j.visit.rows.now) × Contains j.members.now u) c.chunk_at-members.result.now = subst (All (λ u. (u < vertices j.visit.rows.now) × Contains j.members.now u)) (sym c.chunk_at-members.ensures) all in
    λ k d lt s at.
    may_note (g.F.EdgeFn.can_want j.visit.f.now) (g.F.EdgeFn.can_apply j.visit.f.now) j.visit.rows.now j.members.now (g.F.EdgeFn.wanted j.visit.f.now) _ may _ (here k d lt).1 s at

pub returns-clause-gives : goal.returns-clause-gives
returns-clause-gives g c =
    let j = c.args.self.now in
    let may = c.requires.1 in
    let rows = j.visit.rows.now in
    let wanted = g.F.EdgeFn.wanted j.visit.f.now in
    let all = chunk_members (λ u. u < vertices rows) j.members.now j.size c.args.chunk may.members_in in
    let r = run_gives Push rows j.members.now wanted (g.F.EdgeFn.gives j.visit.f.now) _ _ (pushed_apps rows wanted (chunk_of j.members.now j.size c.args.chunk)) c.args.token.now c.push_members.new.state c.new-noted.result.items _ c.in_ok-push_members.ensures.pushed c.new-noted.ensures.items (ap (pushed_apps rows wanted) c.chunk_at-members.ensures) (push_covers rows may.lawful j.members.now wanted (chunk_of j.members.now j.size c.args.chunk) all).no_other in
    record { added = r.0; gives_out = r.1; log_is = r.2 }
