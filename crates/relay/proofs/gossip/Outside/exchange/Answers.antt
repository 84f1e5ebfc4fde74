use Rattle.relay.specs.Moments.{moment}
use Rattle.relay.specs.Exchanges.{streams_of}
use Rattle.relay.proofs.Leading.{exchanges_asking, exchanges_serving}
use Rattle.relay.proofs.Passing.{gossips_on}
use Rattle.relay.proofs.gossip.Outside.exchange.Goals as goal

pub returns-then-asks_first-clause-gossips : goal.returns-then-asks_first-clause-gossips
returns-then-asks_first-clause-gossips g c =
    let D = g.D.Disk in
    let S = g.S.Source in
    let T = g.K.Sink in
    gossips_on g.V.Verifier.accepts (moment D S T c.args.stored.now c.args.self.now) (moment D S T c.learn.new.stored c.learn.new.self) (moment D S T c.learn.new.stored c.serve.new.self) c.serve.result
    c.in_ok-learn.ensures.gossips.0 c.in_ok-learn.ensures.gossips.2 c.serve.ensures.gossips

pub returns-then-asks_first-clause-exchanges : goal.returns-then-asks_first-clause-exchanges
returns-then-asks_first-clause-exchanges g c =
    let S = g.S.Source in
    let T = g.K.Sink in
    exchanges_asking g.V.Verifier.accepts c.args.asks_first c.args.time (streams_of S T c.args.self.now) (streams_of S T c.learn.new.self) (streams_of S T c.serve.new.self)
    c.args.stored.now.node c.learn.new.stored.node c.serve.result c.if-asks_first.true c.in_ok-learn.ensures.learns c.serve.ensures.serves

pub returns-clause-gossips : goal.returns-clause-gossips
returns-clause-gossips g c =
    let D = g.D.Disk in
    let S = g.S.Source in
    let T = g.K.Sink in
    gossips_on g.V.Verifier.accepts (moment D S T c.args.stored.now c.args.self.now) (moment D S T c.args.stored.now c.serve-2.new.self) (moment D S T c.learn-2.new.stored c.learn-2.new.self) c.learn-2.result
    c.in_ok-serve.ensures.gossips.0 c.in_ok-serve.ensures.gossips.2 c.learn-2.ensures.gossips

pub returns-clause-exchanges : goal.returns-clause-exchanges
returns-clause-exchanges g c =
    let S = g.S.Source in
    let T = g.K.Sink in
    exchanges_serving g.V.Verifier.accepts c.args.asks_first c.args.time (streams_of S T c.args.self.now) (streams_of S T c.serve-2.new.self) (streams_of S T c.learn-2.new.self)
    c.args.stored.now.node c.learn-2.new.stored.node c.learn-2.result c.if-asks_first.false c.in_ok-serve.ensures.serves c.learn-2.ensures.learns
