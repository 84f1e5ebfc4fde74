use Rattle.std.proofs.Common.{◌≡◌, None}
use Rattle.hg_life.specs.Calls.{make_draft}
use Rattle.hg_gossip.proofs.SeenLaws.{still_so, whole_made}
use Rattle.hg_gossip.proofs.node.NodeHolder.make.Goals as goal

pub returns-clause-ok : goal.returns-clause-ok
returns-clause-ok g c =
    whole_made g.V.Verifier.accepts c.args.self.now c.make.new.self c.args.others.now c.args.time c.args.payload.now c.make.result c.make.ensures.ok

pub returns-clause-free : goal.returns-clause-free
returns-clause-free g c =
    still_so (λ v. make_draft v c.args.others.now c.args.payload.now ≡ None) c.args.self.now c.make.new.self c.make.result c.make.ensures.err c.make.ensures.free
