use Rattle.std.proofs.Common.{sym, ap, ◌∙◌}
use Rattle.hg_storm.proofs.PlanLaws.{circle_more, circle_none, circle_same}
use Rattle.hg_storm.proofs.plan.circle_of.Goals as goal
use Rattle.hg_storm.proofs.plan.circle_of.Goals.{then-has_node+in_ok-push, else-has_node}

pub loop-member-init : goal.loop-member-init
loop-member-init c = c.new-circle.ensures.items ∙ circle_none c.args.members.now

pub loop-member-preserved : goal.loop-member-preserved
loop-member-preserved c = elim c.if-has_node.branch [
  | then-has_node+in_ok-push w ↦
      circle_more c.args.members.now c.loop-member.circle.items c.if-has_node.circle.items c.loop-member.member c.loop-member.invariant (sym c.has_node.ensures ∙ w.if-has_node.true)
      (ap (λ v. v.items) w.circle-is ∙ w.in_ok-push.ensures.items)
  | else-has_node w ↦
      circle_same c.args.members.now c.loop-member.circle.items c.if-has_node.circle.items c.loop-member.member c.loop-member.invariant (sym c.has_node.ensures ∙ w.if-has_node.false)
      (ap (λ v. v.items) w.circle-is)
]
