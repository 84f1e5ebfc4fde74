use Rattle.hg_proof.proofs.JudgeLaws.{accepted_shown, shown_accepted, shown_one}
use Rattle.hg_proof.proofs.laws.certificates_are_judged.Goals as goal

pub returns-clause-accepted : goal.returns-clause-accepted
returns-clause-accepted c = accepted_shown

pub returns-clause-shown : goal.returns-clause-shown
returns-clause-shown c = shown_accepted

pub returns-clause-one : goal.returns-clause-one
returns-clause-one c = shown_one
