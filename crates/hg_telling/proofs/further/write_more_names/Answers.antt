use Rattle.hg_io.proofs.PrintLaws.{failed, more_put, stopped_within}
use Rattle.hg_telling.proofs.LineLaws.{names_left}
use Rattle.hg_telling.proofs.further.write_more_names.Goals as goal

pub loop-member-preserved : goal.loop-member-preserved
loop-member-preserved g c =
    more_put _ _ _ _ _ _ _ (names_left c.args.members.now c.args.others.now c.loop-member.member-index _ c.loop-member-test.true) c.loop-member.invariant c.in_ok-write_more_name.ensures

pub returns-in_err-write_more_name : goal.returns-in_err-write_more_name
returns-in_err-write_more_name g c =
    failed _ _ _ _ c.from_residual.ensures.0 (stopped_within _ _ _ _ _ _ _ (names_left c.args.members.now c.args.others.now c.loop-member.member-index _ c.loop-member-test.true) c.loop-member.invariant c.in_err-write_more_name.ensures)
