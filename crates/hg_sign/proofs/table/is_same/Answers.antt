use Rattle.std.proofs.Common.{arith}
use Rattle.hg_sign.proofs.Differing.{AreDifferences-all, AreDifferences-more}
use Rattle.hg_sign.proofs.table.is_same.Goals as goal

pub loop-i-preserved : goal.loop-i-preserved
loop-i-preserved c =
    AreDifferences-more c.loop-i.difference c.loop-i.i c.args.a.now c.args.b.now (omega arith) (omega arith) c.loop-i.invariant

pub returns : goal.returns
returns c = AreDifferences-all c.loop-i.difference c.loop-i.i c.args.a.now c.args.b.now (omega arith) (omega arith) c.loop-i.invariant
