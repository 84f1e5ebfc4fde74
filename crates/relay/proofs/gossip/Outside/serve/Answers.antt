use Rattle.std.proofs.Common.{refl, ap, length, arith, rules}
use Rattle.std.specs.Prelude.{Err, Ok}
use Rattle.hg_life.specs.declared.gossip.Parcel.{Parcel}
use Rattle.hg_wire.specs.declared.message.Want.TheVariants.{Have}
use Rattle.hg_top.specs.declared.status.Status.TheVariants.{Memory}
use Rattle.relay.specs.Moments.{NoMemory, moment}
use Rattle.relay.proofs.Passing.{fails, gossips_on, heard, said, serves_then}
use Rattle.relay.proofs.gossip.Outside.serve.Goals as goal

pub returns-in_err-have-clause-gossips : goal.returns-in_err-have-clause-gossips
returns-in_err-have-clause-gossips g c =
    let accepts = g.V.Verifier.accepts in
    let out = c.args.self.now in
    let stored = c.args.stored.now in
    let a = moment g.D.Disk g.S.Source g.K.Sink stored out in
    let b = moment g.D.Disk g.S.Source g.K.Sink stored (record out { source = c.hear.new.source }) in
    let status = c.in_err-have.field-0.0 in
    let ended = heard accepts g.D.Disk g.S.Source g.K.Sink stored out c.requires Have c.hear.new.source (Err status) c.in_err-have.ensures in
    fails accepts a b c.from_residual.result status c.from_residual.ensures.1 ended.0 ended.1

pub returns-in_err-rows-clause-gossips : goal.returns-in_err-rows-clause-gossips
returns-in_err-rows-clause-gossips g c =
    let accepts = g.V.Verifier.accepts in
    let out = c.args.self.now in
    let stored = c.args.stored.now in
    let a = moment g.D.Disk g.S.Source g.K.Sink stored out in
    let b = moment g.D.Disk g.S.Source g.K.Sink stored (record out { source = c.hear.new.source }) in
    let first = heard accepts g.D.Disk g.S.Source g.K.Sink stored out c.requires Have c.hear.new.source (Ok c.in_ok-have.have) c.in_ok-have.ensures in
    fails accepts a b c.from_residual-in_err-rows.result Memory c.from_residual-in_err-rows.ensures.1 first.0 (NoMemory refl)

pub say-requires : goal.say-requires
say-requires g c =
    let fits = c.exchanges_fit.ensures.answers g.V.Verifier.accepts c.names_of.result.now c.unwrap-node.result.now c.is_node.ensures in
    omega (arith, fits.0, ap (λ (p : Parcel). length p.rows) c.in_ok-rows.ensures)

pub returns-clause-gossips : goal.returns-clause-gossips
returns-clause-gossips g c =
    let accepts = g.V.Verifier.accepts in
    let out = c.args.self.now in
    let stored = c.args.stored.now in
    let D = g.D.Disk in
    let S = g.S.Source in
    let T = g.K.Sink in
    let mid = record out { source = c.hear.new.source } in
    let after = record mid { sink = c.say.new.sink } in
    let first = heard accepts D S T stored out c.requires Have c.hear.new.source (Ok c.in_ok-have.have) c.in_ok-have.ensures in
    gossips_on accepts (moment D S T stored out) (moment D S T stored mid) (moment D S T stored after) c.say.result first.0 first.2
    (said accepts D S T stored mid first.1 c.say.new.sink _ c.say.result c.say.ensures)

pub returns-clause-serves : goal.returns-clause-serves
returns-clause-serves g c =
    let out = c.args.self.now in
    serves_then g.S.Source g.K.Sink c.args.stored.now.node c.unwrap-node.result.now c.in_ok-have.have c.names_of.result.now c.in_ok-rows.rows out.source c.hear.new.source out.sink c.say.new.sink (search rules)
    c.names_of.ensures c.in_ok-rows.ensures c.in_ok-have.ensures.0 c.say.result c.say.ensures
