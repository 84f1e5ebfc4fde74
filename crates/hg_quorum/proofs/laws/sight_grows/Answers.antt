use Rattle.hg_model.specs.Links.{links}
use Rattle.hg_model.proofs.SightLaws.{strongly_sees_grows}
use Rattle.hg_quorum.proofs.laws.sight_grows.Goals as goal

pub returns : goal.returns
returns c = record { grows = λ n G g. strongly_sees_grows (links G) g.shaped.earlier n }
