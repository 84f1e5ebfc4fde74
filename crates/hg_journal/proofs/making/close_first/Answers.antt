use Rattle.std.proofs.Common.{rules, ◌∷◌, [], inl, sym, subst}
use Rattle.std.proofs.lemmas.Bool.Decides.{not_from_Decides}
use Rattle.hg_io.specs.FileView.{with_piece}
use Rattle.hg_io.proofs.Going.{told_before, weaker}
use Rattle.hg_journal.specs.Writing.{IsEmpty, IsOnlyBegun}
use Rattle.hg_journal.proofs.Fresh.{first_written, torn_first}
use Rattle.hg_journal.proofs.making.close_first.Goals as goal

pub returns-then-begun-clause-now : goal.returns-then-begun-clause-now
returns-then-begun-clause-now g c bytes told left may =
    subst (IsEmpty c.args.head.now) (sym (c.requires.synced bytes told left may)) (inl (c.requires.anew bytes told))

pub returns-in_err-put_down-clause-now : goal.returns-in_err-put_down-clause-now
returns-in_err-put_down-clause-now g c bytes told left may =
    torn_first c.args.head.now (search rules) bytes left (c.requires.anew bytes told) (not_from_Decides _ (c.requires.begun bytes told) c.if-begun.false) (c.put_down.ensures.torn bytes told left may)

pub returns-in_err-put_down-clause-leaves : goal.returns-in_err-put_down-clause-leaves
returns-in_err-put_down-clause-leaves g c bytes told =
    weaker (c.put_down.ensures.leaves bytes told) (λ left. torn_first c.args.head.now (search rules) bytes left (c.requires.anew bytes told) (not_from_Decides _ (c.requires.begun bytes told) c.if-begun.false))

pub returns-clause-begun : goal.returns-clause-begun
returns-clause-begun g c now told =
    let was = told_before (with_piece 0 (0 ∷ [])) _ _ now c.in_ok-put_down.ensures.written told in
    subst IsOnlyBegun (sym was.2) (first_written c.args.head.now (search rules) was.0 (c.requires.anew was.0 was.1))

pub returns-clause-now : goal.returns-clause-now
returns-clause-now g c bytes told left may =
    torn_first c.args.head.now (search rules) bytes left (c.requires.anew bytes told) (not_from_Decides _ (c.requires.begun bytes told) c.if-begun.false) (c.put_down.ensures.torn bytes told left may)

pub returns-clause-leaves : goal.returns-clause-leaves
returns-clause-leaves g c bytes told =
    weaker (c.put_down.ensures.leaves bytes told) (λ left. torn_first c.args.head.now (search rules) bytes left (c.requires.anew bytes told) (not_from_Decides _ (c.requires.begun bytes told) c.if-begun.false))
