use Rattle.std.proofs.Common.{◌+◌, ◌∙◌, [], ◌∷◌, ap, arith, length, length-append}
use Rattle.hg_world.proofs.PullLaws.{errs}
use Rattle.hg_world.proofs.StepLaws.{ran_first, run_more, step_at}
use Rattle.hg_world.proofs.world.World.apply_all.Goals as goal

pub apply-requires : goal.apply-requires
apply-requires c = step_at c.args.self.now c.loop-step.self c.args.steps.now c.loop-step.step-index c.step-item.result c.loop-step.replies.items c.requires (omega arith) c.step-item.is c.loop-step.invariant.run

pub returns-in_err-reply-clause-err : goal.returns-in_err-reply-clause-err
returns-in_err-reply-clause-err c =
    errs c.from_residual-in_err-reply.result _ (ran_first c.args.self.now c.loop-step.self c.apply.new.self c.args.steps.now c.loop-step.step-index c.step-item.result c.loop-step.replies.items (omega arith) c.step-item.is c.loop-step.invariant.run c.in_err-reply.ensures.err c.in_err-reply.ensures.free)

pub loop-step-preserved : goal.loop-step-preserved
loop-step-preserved c = record {
  run = run_more c.args.self.now c.loop-step.self c.apply.new.self c.args.steps.now c.loop-step.step-index c.step-item.result c.loop-step.replies.items c.push_reserved.new.self.items c.in_ok-reply.reply (omega arith) c.step-item.is c.loop-step.invariant.run c.in_ok-reply.ensures.ok c.push_reserved.ensures.items;
  count = ap length c.push_reserved.ensures.items ∙ (length-append c.loop-step.replies.items (c.in_ok-reply.reply ∷ []) ∙ ap (λ n. n + 1) c.loop-step.invariant.count);
  room = omega (arith, c.loop-step.invariant.room, c.push_reserved.ensures.capacity);
}
