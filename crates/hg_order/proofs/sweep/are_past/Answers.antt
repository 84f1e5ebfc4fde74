use Rattle.std.proofs.Common.{arith}
use Rattle.hg_order.proofs.FromLaws.{past_from}
use Rattle.hg_order.proofs.sweep.are_past.Goals as goal

pub returns : goal.returns
returns c = λ _ m inside. past_from c.args.low c.args.next.now c.args.least.now m (c.loop-m.invariant m (omega arith))
