use Rattle.std.proofs.Common.{◌≡◌, length}
use Rattle.hg_life.specs.declared.answers.PutAnswer.TheVariants.{Accepted}
use Rattle.hg_life.specs.Calls.{put_answer}
use Rattle.hg_life.specs.NodeView.{node_rows}
use Rattle.hg_gossip.proofs.SeenLaws.{still_so, whole_put}
use Rattle.hg_gossip.proofs.node.NodeHolder.put.Goals as goal

pub returns-clause-ok : goal.returns-clause-ok
returns-clause-ok g c = whole_put g.V.Verifier.accepts c.args.self.now c.put.new.self c.args.bytes.now c.put.result c.put.ensures.answer c.put.ensures.ok

pub returns-clause-free : goal.returns-clause-free
returns-clause-free g c =
    still_so (λ v. put_answer g.V.Verifier.accepts v c.args.bytes.now ≡ Accepted (length (node_rows v))) c.args.self.now c.put.new.self c.put.result c.put.ensures.err c.put.ensures.free
