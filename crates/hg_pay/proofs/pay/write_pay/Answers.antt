use Rattle.std.proofs.Common.{◌∙◌, ap, arith, List, ℕ, length}
use Rattle.hg_pay.proofs.PayLaws.{written_long}
use Rattle.hg_pay.proofs.pay.write_pay.Goals as goal

pub returns-clause-long : goal.returns-clause-long
returns-clause-long c =
    ap (λ (bytes : List ℕ). length bytes) c.from_vec.ensures
    ∙ written_long c.args.transfers.now c.loop-transfer.transfer-index _ (omega (arith, c.loop-transfer-test.false)) c.loop-transfer.invariant
