use Rattle.std.proofs.Common.{◌<◌, subst}
use Rattle.hg_model.specs.Stakes.{member_count}
use Rattle.hg_model.specs.Shape.{ShapeWithRoom}
use Rattle.hg_branches.proofs.sight.BranchSightSight.creator.Goals as goal

pub returns-clause-member : goal.returns-clause-member
returns-clause-member c =
    subst (λ (g : ShapeWithRoom). c.creator_at.result < member_count g.shape.members) c.self.view_is
    (c.creator_at.ensures.member c.self.inside.stakes c.self.invariant.branches.shaped)
