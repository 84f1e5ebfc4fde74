use Rattle.std.proofs.Common.{refl}
use Rattle.hg_exchange.specs.Exchanges.{IsAsking, played_node}
use Rattle.hg_wire.specs.Exchange.{asked_of}
use Rattle.hg_top.proofs.WorkLaws.{delivers}
use Rattle.hg_top.proofs.exchanging.ask_peers.Goals as goal

pub returns-in-Ok : goal.returns-in-Ok
returns-in-Ok g c =
    let v = played_node c.args.members.now c.args.lines.now c.args.own in
    rw c.delivered.ensures (delivers g.K.Sink c.args.out.now c.ask.new.out (IsAsking v) (asked_of v) c.in-Ok.delivery (c.in-Ok.ensures.fits, refl) c.in-Ok.ensures.sent)
