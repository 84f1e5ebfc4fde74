use Rattle.hg_keep.proofs.StopLaws.{errs}
use Rattle.hg_life.specs.NodeView.{start_of}
use Rattle.hg_top.specs.Keeps.{open_status}
use Rattle.relay.specs.Moments.{moment}
use Rattle.relay.specs.Relaying.{Ended, IsHalted, outside, unopened}
use Rattle.relay.proofs.Beginning.{gossip_halts, gossip_syncs, open_halts, open_syncs, relays_stored}
use Rattle.relay.proofs.gossip.Outside.relay_node.Goals as goal

pub returns-in_err-stored-clause-synced : goal.returns-in_err-stored-clause-synced
returns-in_err-stored-clause-synced g c =
    let start = start_of c.args.members.now c.args.own c.args.keys in
    open_syncs g.V.Verifier.accepts start (g.D.Disk.file c.args.self.now.disk) (g.D.Disk.file c.open.new.disk) c.in_err-stored.field-0.0 c.from_residual.result c.from_residual.ensures.1 c.in_err-stored.ensures.synced

pub returns-in_err-stored-clause-halted : goal.returns-in_err-stored-clause-halted
returns-in_err-stored-clause-halted g c =
    let accepts = g.V.Verifier.accepts in
    let D = g.D.Disk in
    let S = g.S.Source in
    let T = g.K.Sink in
    let start = start_of c.args.members.now c.args.own c.args.keys in
    let out = c.args.self.now in
    let name = c.args.asked.now.disk.now in
    let disk = c.open.new.disk in
    let e = c.in_err-stored.field-0.0 in
    errs c.from_residual.result (open_status e) (IsHalted accepts start (moment D S T (unopened name) out) (moment D S T (unopened name) (record out { disk = disk }))) c.from_residual.ensures.1
    (open_halts accepts start D S T name out disk e c.in_err-stored.ensures.cause c.in_err-stored.ensures.refused (λ s. s.node) c.in_err-stored.ensures.opens)

pub returns-in_err-gossip-clause-synced : goal.returns-in_err-gossip-clause-synced
returns-in_err-gossip-clause-synced g c =
    let start = start_of c.args.members.now c.args.own c.args.keys in
    gossip_syncs g.V.Verifier.accepts start (g.D.Disk.file c.args.self.now.disk) (g.D.Disk.file c.open.new.disk) (g.D.Disk.file c.gossip.new.self.disk) c.in_ok-stored.stored c.in_ok-stored.stored.node c.from_residual-in_err-gossip.result
    c.in_ok-stored.ensures.synced c.open.ensures.shown c.in_ok-stored.ensures.opens c.in_ok-stored.ensures.begins c.in_err-gossip.ensures.gossips.0.stops

pub returns-in_err-gossip-clause-halted : goal.returns-in_err-gossip-clause-halted
returns-in_err-gossip-clause-halted g c =
    let accepts = g.V.Verifier.accepts in
    let D = g.D.Disk in
    let S = g.S.Source in
    let T = g.K.Sink in
    let start = start_of c.args.members.now c.args.own c.args.keys in
    let out = c.args.self.now in
    let name = c.args.asked.now.disk.now in
    let after = c.gossip.new.self in
    let status = c.in_err-gossip.field-0.0 in
    let ended = c.in_err-gossip.ensures.gossips in
    errs c.from_residual-in_err-gossip.result status (IsHalted accepts start (moment D S T (unopened name) out) (moment D S T (unopened name) after)) c.from_residual-in_err-gossip.ensures.1
    (Ended (gossip_halts accepts start D S T name out c.open.new.disk after c.in_ok-stored.stored c.gossip.new.stored status c.in_ok-stored.ensures.name ended.0.name c.open.ensures.counts ended.1))

pub returns-clause-relayed : goal.returns-clause-relayed
returns-clause-relayed g c =
    let D = g.D.Disk in
    let S = g.S.Source in
    let T = g.K.Sink in
    let asked = c.args.asked.now in
    relays_stored g.V.Verifier.accepts (start_of c.args.members.now c.args.own c.args.keys) asked (outside D S T asked c.args.self.now) (outside D S T asked c.gossip.new.self) c.in_ok-stored.stored c.gossip.new.stored
    c.in_ok-stored.ensures.open c.in_ok-stored.ensures.opens c.in_ok-stored.ensures.begins c.in_ok-gossip.ensures.settles c.in_ok-gossip.ensures.gossips.1.keeps

pub returns-clause-synced : goal.returns-clause-synced
returns-clause-synced g c =
    let start = start_of c.args.members.now c.args.own c.args.keys in
    gossip_syncs g.V.Verifier.accepts start (g.D.Disk.file c.args.self.now.disk) (g.D.Disk.file c.open.new.disk) (g.D.Disk.file c.gossip.new.self.disk) c.in_ok-stored.stored c.in_ok-stored.stored.node _
    c.in_ok-stored.ensures.synced c.open.ensures.shown c.in_ok-stored.ensures.opens c.in_ok-stored.ensures.begins c.in_ok-gossip.ensures.gossips.0.stops
