use Rattle.std.proofs.Common.{arith}
use Rattle.hg_model.specs.Fame.{fame_marks}
use Rattle.hg_plain_graph.proofs.TableLaws.{Prints-table}
use Rattle.hg_plain.proofs.fame.marks.Goals as goal

pub returns-clause-marks : goal.returns-clause-marks
unfolding fame_marks
returns-clause-marks c =
    Prints-table _ _ _ _ _ c.loop-x.invariant
    (omega (arith, c.in_ok-voters.ensures.len))
