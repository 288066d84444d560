use Rattle.std.proofs.Common.{◌≡◌, ◌<◌, ◌∙◌, subst, refl, arith, get_or, take, length}
use Rattle.std.proofs.lemmas.List.{length-set, take_all}
use Rattle.jul_subset.proofs.MarkLaws.{SetFor, set_for_more}
use Rattle.jul_subset.proofs.marks.marks_at.Goals as goal

pub loop-id-preserved : goal.loop-id-preserved
loop-id-preserved c =
    let was = c.loop-id.invariant in
    let id = get_or c.args.ids.now c.loop-id.id-index 0 in
    let lt : c.loop-id.id-index < length c.args.ids.now = omega arith in
    let small : get_or c.args.ids.now c.loop-id.id-index 0 < c.args.n = c.requires.within c.loop-id.id-index 0 lt in record {
      len = length-set c.loop-id.marks.items id _ ∙ was.len;
      set = set_for_more c.loop-id.marks.items c.args.ids.now c.loop-id.id-index id lt refl (omega (arith, small, was.len)) was.set;
    }

pub returns-clause-set : goal.returns-clause-set
returns-clause-set c =
    let whole : take c.loop-id.id-index c.args.ids.now ≡ c.args.ids.now = take_all c.loop-id.id-index c.args.ids.now (omega arith) in
    subst (SetFor c.loop-id.marks.items) whole c.loop-id.invariant.set
