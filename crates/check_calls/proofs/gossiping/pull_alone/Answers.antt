use Rattle.hg_gossip.proofs.AloneLaws.{pull_is_alone, waits_alone}
use Rattle.check_calls.proofs.gossiping.pull_alone.Goals as goal

pub returns-clause-peer : goal.returns-clause-peer
returns-clause-peer g c = waits_alone g.row.W.Denot g.W.Verifier.accepts c.args.peer.now c.pull.new.peer c.pull.ensures.peer

pub returns-clause-ok : goal.returns-clause-ok
returns-clause-ok g c =
    pull_is_alone g.V.Verifier.accepts g.W.Verifier.accepts c.args.taker.now c.pull.new.taker c.args.peer.now c.pull.new.peer c.pull.result c.pull.ensures.peer c.pull.ensures.ok
