use Rattle.std.proofs.Common.{subst}
use Rattle.jul_rows.specs.Mirrors.{AreMirrored}
use Rattle.jul_rows.proofs.MirrorLaws.{mirrored_symmetric}
use Rattle.jul_rows.proofs.out_rows.Rows.first_asymmetry.Goals as goal

pub returns-then-branch : goal.returns-then-branch
returns-then-branch c =
    let g = c.args.self.now in
    record { first = mirrored_symmetric g (subst (AreMirrored g 0) c.n.ensures.count (c.in_ok-is_window_mirrored.ensures c.if-branch.true)) }
