use Rattle.hg_journal.proofs.Told.{still_told}
use Rattle.hg_journal.proofs.making.make_anew.Goals as goal

pub returns-in_err-write_head-clause-now : goal.returns-in_err-write_head-clause-now
returns-in_err-write_head-clause-now g c bytes told =
    let now = still_told _ _ bytes c.close_first.ensures.frame.shown told in
    c.write_head.ensures.now now.0 now.1

pub returns-clause-now : goal.returns-clause-now
returns-clause-now g c bytes told =
    let now = still_told _ _ bytes c.close_first.ensures.frame.shown told in
    c.write_head.ensures.now now.0 now.1
