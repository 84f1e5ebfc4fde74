use Rattle.relay.specs.Moments.{IsOpen, IsPassed, moment, streams}
use Rattle.relay.specs.Exchanges.{AreExchangesOf}
use Rattle.relay.specs.Steps.{RelaysOf}
use Rattle.relay.proofs.gossip.Outside.gossip.Given as goal

abbrev pub invariant-loop-i : goal.invariant-loop-i
invariant-loop-i g l =
    let accepts = g.V.Verifier.accepts in
    let first = moment g.D.Disk g.S.Source g.K.Sink l.fn.stored l.fn.self in
    let now = moment g.D.Disk g.S.Source g.K.Sink l.stored l.self in
    record {
      passed : IsPassed accepts first now;
      ready : IsOpen accepts now;
      relays : RelaysOf accepts l.fn.stored.node l.stored.node;
      done : AreExchangesOf accepts l.fn.asked l.i (streams first) (streams now) l.fn.stored.node l.stored.node;
    }
