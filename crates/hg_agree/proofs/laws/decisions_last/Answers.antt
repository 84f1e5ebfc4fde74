use Rattle.hg_model.specs.Links.{links}
use Rattle.hg_model.specs.Order.{coin_at}
use Rattle.hg_model.proofs.LinkLaws.{length-links}
use Rattle.hg_agree.proofs.AgreeLaws.{decision_lasts}
use Rattle.hg_agree.proofs.laws.decisions_last.Goals as goal

pub returns : goal.returns
returns c = record {
  last = λ n period G g x y z hy hz. decision_lasts n (links G) g.shaped g.few_forkers period (coin_at G) x y z (rw length-links hy) (rw length-links hz);
}
