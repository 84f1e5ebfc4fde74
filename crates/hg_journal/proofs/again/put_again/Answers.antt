use Rattle.hg_journal.proofs.NodeLaws.{put_comes}
use Rattle.hg_journal.proofs.again.put_again.Goals as goal

pub returns-clause-came : goal.returns-clause-came
returns-clause-came g c =
    put_comes g.V.Verifier.accepts c.args.node.now c.put.new.self c.changes-before.result c.changes.result c.changes-before.ensures c.changes.ensures c.args.bytes.now c.in_ok-put.ensures.ok
