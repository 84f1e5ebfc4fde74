use Rattle.hg_model.proofs.LinkLaws.{parents_below}
use Rattle.hg_plain_graph.proofs.links.parents_of.Goals as goal

pub returns-clause-earlier : goal.returns-clause-earlier
returns-clause-earlier c = rw c.listed_parents.ensures (parents_below c.args.links.now c.args.x c.requires.earlier)
