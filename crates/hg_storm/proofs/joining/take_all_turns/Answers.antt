use Rattle.std.proofs.Common.{arith}
use Rattle.hg_storm.proofs.RunLaws.{all_come}
use Rattle.hg_storm.proofs.joining.take_all_turns.Goals as goal

pub returns : goal.returns
returns g c =
    all_come c.args.plan.now c.args.mailboxes.now c.args.places.now c.args.jobs.items c.in_ok-ended.ended.items (omega (arith, c.in_ok-ended.ensures.len, c.in_ok-ended.ended.ok, c.args.jobs.ok))
    (λ k r inside. let one = c.in_ok-ended.ensures.each k r inside in (one.1.job, one.1.job_is, one.1.call.met))
