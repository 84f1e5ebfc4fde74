use Rattle.hg_model.specs.Links.{links}
use Rattle.hg_model.proofs.LinkLaws.{length-links}
use Rattle.hg_agree.proofs.QuorumLaws.{sees_quorum}
use Rattle.hg_agree.proofs.laws.rounds_carry_a_quorum.Goals as goal

pub returns : goal.returns
returns c = record { quorum = λ n G g x r hx pos is. sees_quorum n (links G) g.shaped g.few_forkers x r (rw length-links hx) pos is }
