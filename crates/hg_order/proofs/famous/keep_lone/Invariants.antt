use Rattle.hg_order.specs.Famous.{is_lone}
use Rattle.hg_order.proofs.KeepLaws.{Keeps}
use Rattle.hg_order.proofs.famous.keep_lone.Given as goal

abbrev pub invariant-loop-y : goal.invariant-loop-y
invariant-loop-y g l = Keeps (is_lone (g.S.Sight.shape l.sight).links l.marks l.witnesses) l.witnesses l.fn.out l.out l.y-index l.count
