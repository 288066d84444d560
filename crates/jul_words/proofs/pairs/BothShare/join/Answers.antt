use Rattle.std.proofs.Common.{sym, ◌∙◌}
use Rattle.jul_base.proofs.LogLaws.{followed_by-append, append-equal}
use Rattle.jul_words.proofs.pairs.BothShare.join.Goals as goal

pub join-requires-clause-kin : goal.join-requires-clause-kin
join-requires-clause-kin g c =
    (append-equal (g.A.Share.home c.args.other.a) (g.A.Share.home c.args.self.now.a) _ _ (g.met.A.Share.home_has_parts _ ∙ sym (g.met.A.Share.home_has_parts _)) c.requires.kin).0

pub join-requires-2-clause-kin : goal.join-requires-2-clause-kin
join-requires-2-clause-kin g c =
    (append-equal (g.A.Share.home c.args.other.a) (g.A.Share.home c.args.self.now.a) _ _ (g.met.A.Share.home_has_parts _ ∙ sym (g.met.A.Share.home_has_parts _)) c.requires.kin).1

pub returns-clause-log : goal.returns-clause-log
returns-clause-log g c =
    rw (c.join.ensures.log, c.join-2.ensures.log)
    (sym (followed_by-append (g.A.Share.log c.args.self.now.a) (g.A.Share.log c.args.other.a) _ _ (g.met.A.Share.log_has_parts _ ∙ sym (g.met.A.Share.log_has_parts _))))
