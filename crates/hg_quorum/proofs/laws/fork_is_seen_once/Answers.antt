use Rattle.hg_model.specs.Links.{links}
use Rattle.hg_quorum.proofs.ForkSightLaws.{fork_seen_once}
use Rattle.hg_model.proofs.LinkLaws.{length-links}
use Rattle.hg_quorum.proofs.laws.fork_is_seen_once.Goals as goal

pub returns : goal.returns
returns c = record {
  once = λ n G g m a b x y hx hy. fork_seen_once n (links G) g.shaped g.few_forkers m a b x y (rw length-links hx) (rw length-links hy);
}
