use Rattle.std.proofs.Common.{◌+◌, ◌*◌}
use Rattle.hg_crowd.proofs.party.+Party-work_up_to+fn-Party-work_up_to-join+arg2.Given as goal

abbrev pub decreases-join+arg2 : goal.decreases-join+arg2
decreases-join+arg2 g l = 2 * l.before + 1

abbrev pub decreases-Party::work_up_to : goal.decreases-Party::work_up_to
decreases-Party::work_up_to g l = 2 * l.last
