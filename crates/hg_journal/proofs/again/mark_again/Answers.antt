use Rattle.hg_journal.proofs.NodeLaws.{mark_comes}
use Rattle.hg_journal.proofs.again.mark_again.Goals as goal

pub returns : goal.returns
returns g c =
    mark_comes g.V.Verifier.accepts c.args.node.now c.remark.new.self c.changes-before.result c.changes.result c.changes-before.ensures c.changes.ensures c.args.len c.args.share c.requires c.k.ensures.lawful c.in_ok-remark.ensures.ok
