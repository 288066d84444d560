use Rattle.std.proofs.Common.{◌≡◌, ◌+◌, ◌*◌, ◌∙◌, ap, refl}
use Rattle.std.specs.Prelude.{min}
use Rattle.jul_base.specs.Graph.{vertices}
use Rattle.jul_base.specs.Numbers.{below}
use Rattle.jul_subset.specs.Chunks.{chunk_of}
use Rattle.jul_edge.proofs.PullLaws.{may_pull, chunk-below, chunk_in, pull_covers, pulled_chunk}
use Rattle.jul_edge.proofs.pulls.PullJobJob.run.Goals as goal

pub pull_targets-requires-clause-can : goal.pull_targets-requires-clause-can
pull_targets-requires-clause-can g c =
    let j = c.args.self.now in
    may_pull (g.F.EdgeFn.can_want j.visit.f.now) (g.F.EdgeFn.can_apply j.visit.f.now) j.visit.rows.now j.in_rows.now j.from.now.members (g.F.EdgeFn.wanted j.visit.f.now) _ c.requires.2

pub returns-clause-gives : goal.returns-clause-gives
returns-clause-gives g c =
    let j = c.args.self.now in
    let may = c.requires.2 in
    let rows = j.visit.rows.now in
    let edges = j.in_rows.now in
    let members = j.from.now.members in
    let wanted = g.F.EdgeFn.wanted j.visit.f.now in
    let vs = chunk_of (below (vertices rows)) j.size c.args.chunk in
    let end : c.min-last.result ≡ min (vertices rows) (c.args.chunk * j.size + j.size) = c.min-last.ensures ∙ ap (λ n. min n (c.args.chunk * j.size + j.size)) c.n-n.ensures.count in
    let cut = chunk-below (vertices rows) j.size c.args.chunk (c.args.chunk * j.size) c.min-last.result refl c.requires.0 end in
    let r = pulled_chunk rows edges members wanted (g.F.EdgeFn.gives j.visit.f.now) (g.F.Token.Share.log) _ vs c.args.token.now c.pull_targets.new.state c.new-noted.result.items _ c.in_ok-pull_targets.ensures.pulled c.new-noted.ensures.items cut (pull_covers rows may.lawful edges may.flip members wanted vs (chunk_in (vertices rows) j.size c.args.chunk)).no_other in
    record { added = r.0; gives_out = r.1; log_is = r.2 }
