use Rattle.std.proofs.Common.{take}
use Rattle.hg_life.specs.Pay.{paid}
use Rattle.hg_pay.proofs.HasCome.{HasCome}
use Rattle.hg_pay.proofs.paying.pay_all.Given as goal

abbrev pub invariant-loop-i : goal.invariant-loop-i
invariant-loop-i l = HasCome (paid l.initial.balances l.payer (take l.i l.pay)) l.balances l.done
