use Rattle.std.proofs.Common.{sym}
use Rattle.hg_pay.proofs.PayLaws.{pay_found}
use Rattle.hg_pay.proofs.pay.pay_in.Goals as goal

pub returns : goal.returns
returns c = sym (pay_found _ _ _ c.as_chunks.ensures.front c.if-count-gt-TRANSFER_LIMIT.false c.if-rest-count.false)
