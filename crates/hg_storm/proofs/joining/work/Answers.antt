use Rattle.std.proofs.Common.{◌<◌, subst}
use Rattle.hg_model.specs.Shares.{Share}
use Rattle.hg_life.specs.Signing.{accepts_by}
use Rattle.hg_board.specs.Crews.{MarksAll}
use Rattle.hg_storm.proofs.RunLaws.{worked_by}
use Rattle.hg_storm.proofs.joining.work.Goals as goal

pub returns-in-Ok-clause-worked : goal.returns-in-Ok-clause-worked
returns-in-Ok-clause-worked g c = worked_by accepts_by c.args.shared.now c.args.seat c.work.new.seat c.new.result c.requires c.work.ensures.stays c.work.ensures.marks

pub returns-in-Ok-clause-marked : goal.returns-in-Ok-clause-marked
returns-in-Ok-clause-marked g c =
    subst (λ (share : Share). 0 < c.args.turns → MarksAll c.args.shared.now share c.args.seat c.work.new.seat) c.new.ensures c.in-Ok.ensures.all

pub returns-in-Err-clause-worked : goal.returns-in-Err-clause-worked
returns-in-Err-clause-worked g c = worked_by accepts_by c.args.shared.now c.args.seat c.work.new.seat c.new.result c.requires c.work.ensures.stays c.work.ensures.marks
