use Rattle.hg_pay.proofs.PayLaws.{pay_read, pay_spelled}
use Rattle.hg_pay.proofs.laws.pays_are_spelled.Goals as goal

pub returns-clause-read : goal.returns-clause-read
returns-clause-read c = pay_read

pub returns-clause-one : goal.returns-clause-one
returns-clause-one c = pay_spelled
