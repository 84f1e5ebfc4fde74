use Rattle.std.proofs.Common.{refl, arith}
use Rattle.hg_storm.specs.declared.desk.Log.{Log}
use Rattle.hg_storm.proofs.WorldLaws.{mapped_all, mapped_more}
use Rattle.hg_storm.proofs.refusals.idle_of.Goals as goal

pub loop-log-preserved : goal.loop-log-preserved
loop-log-preserved c =
    mapped_more (λ (g : Log). g.idle) c.args.logs.now c.loop-log.log-index c.log-item.result c.log-item.result.idle c.loop-log.idle.items c.push.new.self.items (omega arith) c.log-item.is
    c.loop-log.invariant refl c.in_ok-push.ensures.items

pub returns : goal.returns
returns c = mapped_all (λ (g : Log). g.idle) c.args.logs.now c.loop-log.log-index c.loop-log.idle.items (omega arith) c.loop-log.invariant
