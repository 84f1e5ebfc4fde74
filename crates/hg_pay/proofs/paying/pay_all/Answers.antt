use Rattle.std.proofs.Common.{arith}
use Rattle.hg_pay.proofs.BookLaws.{none_so_far, one_more, sum-so_far}
use Rattle.hg_pay.proofs.paying.pay_all.Goals as goal

pub loop-i-init : goal.loop-i-init
loop-i-init c = none_so_far _ _

pub pay_one-is_done-requires : goal.pay_one-is_done-requires
pay_one-is_done-requires c = omega (arith, c.requires, sum-so_far _ _ _ _ _ c.loop-i.invariant)

pub loop-i-preserved : goal.loop-i-preserved
loop-i-preserved c = one_more _ _ _ _ _ _ _ _ _ _ c.get.ensures c.loop-i.invariant c.pay_one-is_done.ensures.done c.pay_one-is_done.ensures.moved c.with_bit-done.ensures

pub returns-clause-kept : goal.returns-clause-kept
returns-clause-kept c = sum-so_far _ _ _ _ _ c.loop-i.invariant
