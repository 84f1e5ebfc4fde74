use Rattle.std.proofs.Common.{◌≡◌, ℕ, suc, ◌+◌, ◌-◌, ◌^◌, ◌∙◌, ap, subst, arith}
use Rattle.std.specs.Prelude.{min}
use Rattle.hg_keep.specs.Keeping.{IsSettledSome}
use Rattle.hg_keep.specs.Stores.{open_error_of}
use Rattle.hg_top.specs.Keeps.{open_status}
use Rattle.relay.specs.Exchanges.{AreExchangesOf, streams_of}
use Rattle.relay.specs.Moments.{moment, streams}
use Rattle.relay.specs.Steps.{Settles}
use Rattle.relay.proofs.Leading.{exchanges_more, exchanges_none, relays_all, relays_on, relays_settled, relays_still}
use Rattle.relay.proofs.Passing.{cause_on, fails, opens, passed_on, passed_still, unkept, worked}
use Rattle.relay.proofs.gossip.Outside.gossip.Goals as goal

pub loop-i-init : goal.loop-i-init
loop-i-init g c =
    let a = moment g.D.Disk g.S.Source g.K.Sink c.args.stored.now c.args.self.now in
    record { passed = passed_still g.V.Verifier.accepts a c.requires; ready = c.requires; relays = relays_still g.V.Verifier.accepts c.args.stored.now.node; done = exchanges_none g.V.Verifier.accepts c.args.asked.now (streams a) c.args.stored.now.node }

pub loop-i-preserved : goal.loop-i-preserved
loop-i-preserved g c =
    let accepts = g.V.Verifier.accepts in
    let a = moment g.D.Disk g.S.Source g.K.Sink c.args.stored.now c.args.self.now in
    let b = moment g.D.Disk g.S.Source g.K.Sink c.loop-i.stored c.loop-i.self in
    let last = moment g.D.Disk g.S.Source g.K.Sink c.exchange.new.stored c.exchange.new.self in
    let so_far = c.loop-i.invariant in
    let next = c.in_ok-exchange.ensures.gossips in
    let one_more : suc c.loop-i.i ≡ c.loop-i.i + 1 = omega arith in
    record {
      passed = passed_on accepts a b last so_far.relays so_far.passed next.0;
      ready = next.1;
      relays = relays_on accepts a.stored.node b.stored.node last.stored.node so_far.relays next.2;
      done = subst (λ (k : ℕ). AreExchangesOf accepts c.args.asked.now k (streams a) (streams last) a.stored.node last.stored.node) one_more (
          exchanges_more accepts c.args.asked.now c.loop-i.i c.saturating_add-time.result (streams a) (streams b) (streams last) a.stored.node b.stored.node last.stored.node
          (c.saturating_add-time.ensures ∙ ap (λ (n : ℕ). min (c.args.asked.now.time + n) (2 ^ 64 - 1)) c.from.ensures) so_far.done c.in_ok-exchange.ensures.exchanges);
    }

pub returns-in_err-exchange-clause-gossips : goal.returns-in_err-exchange-clause-gossips
returns-in_err-exchange-clause-gossips g c =
    let accepts = g.V.Verifier.accepts in
    let a = moment g.D.Disk g.S.Source g.K.Sink c.args.stored.now c.args.self.now in
    let b = moment g.D.Disk g.S.Source g.K.Sink c.loop-i.stored c.loop-i.self in
    let last = moment g.D.Disk g.S.Source g.K.Sink c.exchange.new.stored c.exchange.new.self in
    let so_far = c.loop-i.invariant in
    let status = c.in_err-exchange.field-0.0 in
    let ended = c.in_err-exchange.ensures.gossips in
    fails accepts a last c.from_residual.result status c.from_residual.ensures.1 (passed_on accepts a b last so_far.relays so_far.passed ended.0) (cause_on accepts a b last status so_far.passed ended.1)

pub returns-in_err-settle-clause-gossips : goal.returns-in_err-settle-clause-gossips
returns-in_err-settle-clause-gossips g c =
    let accepts = g.V.Verifier.accepts in
    let D = g.D.Disk in
    let S = g.S.Source in
    let T = g.K.Sink in
    let stored = c.loop-i.stored in
    let out = c.loop-i.self in
    let so_far = c.loop-i.invariant in
    let kept = c.settle.new.stored in
    let disk = c.settle.new.disk in
    let a = moment D S T c.args.stored.now c.args.self.now in
    let b = moment D S T stored out in
    let last = moment D S T kept (record out { disk = disk }) in
    let e = c.in_err-settle.field-0.0 in
    let done = worked accepts D S T stored out so_far.ready kept disk c.settle.ensures.name c.settle.ensures.frame.counts IsSettledSome (λ v w some. Settles some) c.settle.ensures.frame.shown c.settle.ensures.stops in
    let cause = unkept accepts D S T stored out so_far.ready kept disk c.settle.ensures.name c.settle.ensures.frame.counts c.settle.result e c.in_err-settle.was c.settle.ensures.cause c.settle.ensures.never in
    fails accepts a last c.from_residual-in_err-settle.result (open_status (open_error_of e)) c.from_residual-in_err-settle.ensures.1 (passed_on accepts a b last so_far.relays so_far.passed done)
    (cause_on accepts a b last (open_status (open_error_of e)) so_far.passed cause)

pub returns-clause-gossips : goal.returns-clause-gossips
returns-clause-gossips g c =
    let accepts = g.V.Verifier.accepts in
    let D = g.D.Disk in
    let S = g.S.Source in
    let T = g.K.Sink in
    let stored = c.loop-i.stored in
    let out = c.loop-i.self in
    let so_far = c.loop-i.invariant in
    let kept = c.settle.new.stored in
    let disk = c.settle.new.disk in
    let a = moment D S T c.args.stored.now c.args.self.now in
    let b = moment D S T stored out in
    let last = moment D S T kept (record out { disk = disk }) in
    let done = worked accepts D S T stored out so_far.ready kept disk c.settle.ensures.name c.settle.ensures.frame.counts IsSettledSome (λ v w some. Settles some) c.settle.ensures.frame.shown c.settle.ensures.stops in
    let relays = relays_settled accepts stored.node kept.node c.in_ok-settle.ensures.settles in (
      passed_on accepts a b last so_far.relays so_far.passed done,
      opens accepts D S T stored out so_far.ready kept disk c.settle.ensures.name c.settle.ensures.frame.counts relays c.settle.ensures.frame.started c.in_ok-settle.ensures.stored,
      relays_on accepts a.stored.node stored.node kept.node so_far.relays relays,
    )

pub returns-clause-settles : goal.returns-clause-settles
returns-clause-settles g c =
    let first = streams_of g.S.Source g.K.Sink c.args.self.now in
    let now = streams_of g.S.Source g.K.Sink c.loop-i.self in
    relays_all g.V.Verifier.accepts c.args.asked.now first now c.args.stored.now.node c.loop-i.stored.node c.settle.new.stored.node c.loop-i.invariant.relays
    (subst (λ (n : ℕ). AreExchangesOf g.V.Verifier.accepts c.args.asked.now n first now c.args.stored.now.node c.loop-i.stored.node) (omega arith) c.loop-i.invariant.done)
    c.in_ok-settle.ensures.settles
