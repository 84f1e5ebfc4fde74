use Rattle.std.proofs.Common.{Some}
use Rattle.hg_keep.specs.Keeping.{IsMadeSome, IsPutSome}
use Rattle.hg_keep.specs.Stores.{open_error_of}
use Rattle.hg_top.specs.Keeps.{open_status}
use Rattle.relay.specs.Exchanges.{streams_of}
use Rattle.relay.specs.Moments.{moment}
use Rattle.relay.specs.Steps.{Makes, Puts}
use Rattle.relay.proofs.Leading.{learns_of, relays_on, relays_put, relays_turn, there_relays}
use Rattle.relay.proofs.Passing.{cause_on, fails, opens, passed_on, unkept, worked}
use Rattle.relay.proofs.gossip.Outside.learn.Goals as goal

pub returns-in_err-rows-clause-gossips : goal.returns-in_err-rows-clause-gossips
returns-in_err-rows-clause-gossips g c =
    let a = moment g.D.Disk g.S.Source g.K.Sink c.args.stored.now c.args.self.now in
    let b = moment g.D.Disk g.S.Source g.K.Sink c.args.stored.now c.ask.new.self in
    fails g.V.Verifier.accepts a b c.from_residual.result c.in_err-rows.field-0.0 c.from_residual.ensures.1 c.in_err-rows.ensures.gossips.0 c.in_err-rows.ensures.gossips.1

pub returns-in_err-put_all-clause-gossips : goal.returns-in_err-put_all-clause-gossips
returns-in_err-put_all-clause-gossips g c =
    let accepts = g.V.Verifier.accepts in
    let D = g.D.Disk in
    let S = g.S.Source in
    let T = g.K.Sink in
    let stored = c.args.stored.now in
    let out = c.ask.new.self in
    let a = moment D S T stored c.args.self.now in
    let b = moment D S T stored out in
    let first = c.in_ok-rows.ensures.gossips in
    let kept = c.put_all.new.stored in
    let disk = c.put_all.new.disk in
    let last = moment D S T kept (record out { disk = disk }) in
    let e = c.in_err-put_all.field-0.0 in
    let done = worked accepts D S T stored out first.1 kept disk c.put_all.ensures.name c.put_all.ensures.frame.counts (IsPutSome accepts c.rows_of.result.now) (λ v w some. Puts c.rows_of.result.now some) c.put_all.ensures.frame.shown c.put_all.ensures.stops in
    let cause = unkept accepts D S T stored out first.1 kept disk c.put_all.ensures.name c.put_all.ensures.frame.counts c.put_all.result e c.in_err-put_all.was c.put_all.ensures.cause c.put_all.ensures.never in
    fails accepts a last c.from_residual-in_err-put_all.result (open_status (open_error_of e)) c.from_residual-in_err-put_all.ensures.1 (passed_on accepts a b last first.2 first.0 done)
    (cause_on accepts a b last (open_status (open_error_of e)) first.0 cause)

pub make_next-requires-clause-there : goal.make_next-requires-clause-there
make_next-requires-clause-there g c =
    let accepts = g.V.Verifier.accepts in
    let stored = c.args.stored.now in
    let kept = c.put_all.new.stored in
    there_relays accepts stored.node kept.node c.in_ok-rows.ensures.gossips.1.there (relays_put accepts c.rows_of.result.now stored.node kept.node c.in_ok-put_all.field-0 c.in_ok-put_all.ensures.puts)

pub returns-in_err-make_next-clause-gossips : goal.returns-in_err-make_next-clause-gossips
returns-in_err-make_next-clause-gossips g c =
    let accepts = g.V.Verifier.accepts in
    let D = g.D.Disk in
    let S = g.S.Source in
    let T = g.K.Sink in
    let stored = c.args.stored.now in
    let out = c.ask.new.self in
    let a = moment D S T stored c.args.self.now in
    let b = moment D S T stored out in
    let first = c.in_ok-rows.ensures.gossips in
    let kept = c.put_all.new.stored in
    let disk = c.put_all.new.disk in
    let mid_out = record out { disk = disk } in
    let mid = moment D S T kept mid_out in
    let events = c.rows_of.result.now in
    let name = c.put_all.ensures.name in
    let counts = c.put_all.ensures.frame.counts in
    let put = worked accepts D S T stored out first.1 kept disk name counts (IsPutSome accepts events) (λ v w some. Puts events some) c.put_all.ensures.frame.shown c.put_all.ensures.stops in
    let relays = relays_put accepts events stored.node kept.node c.in_ok-put_all.field-0 c.in_ok-put_all.ensures.puts in
    let ready = opens accepts D S T stored out first.1 kept disk name counts relays c.put_all.ensures.frame.started c.in_ok-put_all.ensures.stored in
    let made = c.make_next.new.stored in
    let later = c.make_next.new.disk in
    let last = moment D S T made (record mid_out { disk = later }) in
    let e = c.in_err-make_next.field-0.0 in
    let done = worked accepts D S T kept mid_out ready made later c.make_next.ensures.name c.make_next.ensures.frame.counts (IsMadeSome accepts (Some c.args.time)) (λ v w some. Makes c.args.time some) c.make_next.ensures.frame.shown c.make_next.ensures.stops in
    let cause = unkept accepts D S T kept mid_out ready made later c.make_next.ensures.name c.make_next.ensures.frame.counts c.make_next.result e c.in_err-make_next.was c.make_next.ensures.cause c.make_next.ensures.never in
    let so_far = passed_on accepts a b mid first.2 first.0 put in
    fails accepts a last c.from_residual-in_err-make_next.result (open_status (open_error_of e)) c.from_residual-in_err-make_next.ensures.1
    (passed_on accepts a mid last (relays_on accepts stored.node stored.node kept.node first.2 relays) so_far done) (cause_on accepts a mid last (open_status (open_error_of e)) so_far cause)

pub returns-clause-gossips : goal.returns-clause-gossips
returns-clause-gossips g c =
    let accepts = g.V.Verifier.accepts in
    let D = g.D.Disk in
    let S = g.S.Source in
    let T = g.K.Sink in
    let stored = c.args.stored.now in
    let out = c.ask.new.self in
    let a = moment D S T stored c.args.self.now in
    let b = moment D S T stored out in
    let first = c.in_ok-rows.ensures.gossips in
    let kept = c.put_all.new.stored in
    let disk = c.put_all.new.disk in
    let mid_out = record out { disk = disk } in
    let mid = moment D S T kept mid_out in
    let events = c.rows_of.result.now in
    let name = c.put_all.ensures.name in
    let counts = c.put_all.ensures.frame.counts in
    let put = worked accepts D S T stored out first.1 kept disk name counts (IsPutSome accepts events) (λ v w some. Puts events some) c.put_all.ensures.frame.shown c.put_all.ensures.stops in
    let relays = relays_put accepts events stored.node kept.node c.in_ok-put_all.field-0 c.in_ok-put_all.ensures.puts in
    let ready = opens accepts D S T stored out first.1 kept disk name counts relays c.put_all.ensures.frame.started c.in_ok-put_all.ensures.stored in
    let made = c.make_next.new.stored in
    let later = c.make_next.new.disk in
    let last = moment D S T made (record mid_out { disk = later }) in
    let done = worked accepts D S T kept mid_out ready made later c.make_next.ensures.name c.make_next.ensures.frame.counts (IsMadeSome accepts (Some c.args.time)) (λ v w some. Makes c.args.time some) c.make_next.ensures.frame.shown c.make_next.ensures.stops in
    let turn = relays_turn accepts c.args.time kept.node made.node c.in_ok-make_next.field-0 c.in_ok-make_next.ensures.turn in
    let all = relays_on accepts stored.node stored.node kept.node first.2 relays in (
      passed_on accepts a mid last all (passed_on accepts a b mid first.2 first.0 put) done,
      opens accepts D S T kept mid_out ready made later c.make_next.ensures.name c.make_next.ensures.frame.counts turn c.make_next.ensures.frame.started c.in_ok-make_next.ensures.stored,
      relays_on accepts stored.node kept.node made.node all turn,
    )

pub returns-clause-learns : goal.returns-clause-learns
returns-clause-learns g c =
    let S = g.S.Source in
    let T = g.K.Sink in
    learns_of g.V.Verifier.accepts c.args.time (streams_of S T c.args.self.now) (streams_of S T c.ask.new.self) c.in_ok-rows.rows c.rows_of.result.now c.args.stored.now.node c.put_all.new.stored.node c.make_next.new.stored.node
    c.in_ok-put_all.field-0 c.in_ok-make_next.field-0 c.in_ok-rows.ensures.asks c.rows_of.ensures c.in_ok-put_all.ensures.puts c.in_ok-make_next.ensures.turn
