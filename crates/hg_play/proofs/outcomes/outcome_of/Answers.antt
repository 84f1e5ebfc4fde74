use Rattle.std.proofs.Common.{◌∙◌}
use Rattle.hg_play.proofs.PlayLaws.{kept_more, kept_none}
use Rattle.hg_play.proofs.outcomes.outcome_of.Goals as goal

pub loop-member-init : goal.loop-member-init
loop-member-init c = c.new-printed.ensures.items ∙ kept_none c.args.members.now c.args.world.now

pub loop-member-preserved : goal.loop-member-preserved
loop-member-preserved c =
    kept_more c.args.members.now c.args.world.now c.loop-member.printed.items c.push_kept.new.printed.items c.loop-member.member c.loop-member.invariant c.in_ok-push_kept.ensures
