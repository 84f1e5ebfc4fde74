use Rattle.hg_proof.proofs.JudgeLaws.{shown_safe}
use Rattle.hg_proof.proofs.laws.certificates_are_safe.Goals as goal

pub returns : goal.returns
returns c = shown_safe
