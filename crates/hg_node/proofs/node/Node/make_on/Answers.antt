use Rattle.hg_node.proofs.NextLaws.{makes_on}
use Rattle.hg_node.proofs.node.Node.make_on.Goals as goal

pub returns-clause-ok : goal.returns-clause-ok
returns-clause-ok g c =
    makes_on g.V.Verifier.accepts c.args.self.now c.make.new.self c.args.others.now c.args.time c.make.result c.is_node.ensures c.requires.next c.make.ensures.ok
