use Rattle.std.proofs.Common.{refl, ap, length, arith, rules, ◌∙◌}
use Rattle.std.specs.Prelude.{Err, Ok}
use Rattle.hg_wire.specs.declared.message.Want.TheVariants.{Rows}
use Rattle.hg_top.specs.declared.status.Status.TheVariants.{Memory}
use Rattle.relay.specs.Moments.{NoMemory, moment}
use Rattle.relay.proofs.Passing.{asks_then, fails, gossips_on, heard, passed_still, said}
use Rattle.relay.proofs.gossip.Outside.ask.Goals as goal

pub returns-in_err-tips-clause-gossips : goal.returns-in_err-tips-clause-gossips
returns-in_err-tips-clause-gossips g c =
    let a = moment g.D.Disk g.S.Source g.K.Sink c.args.stored.now c.args.self.now in
    fails g.V.Verifier.accepts a a c.from_residual.result Memory c.from_residual.ensures.1 (passed_still g.V.Verifier.accepts a c.requires) (NoMemory refl)

pub say-requires : goal.say-requires
say-requires g c =
    let fits = c.exchanges_fit.ensures.asks g.V.Verifier.accepts c.unwrap-node.result.now c.is_node.ensures in
    omega (arith, fits.0, ap length (c.from_vec.ensures ∙ c.in_ok-tips.ensures))

pub returns-in_err-say-clause-gossips : goal.returns-in_err-say-clause-gossips
returns-in_err-say-clause-gossips g c =
    let accepts = g.V.Verifier.accepts in
    let out = c.args.self.now in
    let a = moment g.D.Disk g.S.Source g.K.Sink c.args.stored.now out in
    let status = c.in_err-say.field-0.0 in
    let b = moment g.D.Disk g.S.Source g.K.Sink c.args.stored.now (record out { sink = c.say.new.sink }) in
    let ended = said accepts g.D.Disk g.S.Source g.K.Sink c.args.stored.now out c.requires {X = Unit {0}} c.say.new.sink _ (Err status) c.in_err-say.ensures in
    fails accepts a b c.from_residual-in_err-say.result status c.from_residual-in_err-say.ensures.1 ended.0 ended.1

pub returns-clause-asks : goal.returns-clause-asks
returns-clause-asks g c =
    asks_then g.S.Source g.K.Sink c.args.stored.now.node c.unwrap-node.result.now c.from_vec.result c.args.self.now.source c.hear.new.source c.args.self.now.sink c.say.new.sink (search rules)
    (c.from_vec.ensures ∙ c.in_ok-tips.ensures) c.in_ok-say.ensures.0.0 c.hear.result c.hear.ensures

pub returns-clause-gossips : goal.returns-clause-gossips
returns-clause-gossips g c =
    let accepts = g.V.Verifier.accepts in
    let out = c.args.self.now in
    let stored = c.args.stored.now in
    let D = g.D.Disk in
    let S = g.S.Source in
    let T = g.K.Sink in
    let mid = record out { sink = c.say.new.sink } in
    let after = record mid { source = c.hear.new.source } in
    let first = said accepts D S T stored out c.requires c.say.new.sink _ (Ok c.in_ok-say.field-0) c.in_ok-say.ensures in
    gossips_on accepts (moment D S T stored out) (moment D S T stored mid) (moment D S T stored after) c.hear.result first.0 first.2
    (heard accepts D S T stored mid first.1 Rows c.hear.new.source c.hear.result c.hear.ensures)
