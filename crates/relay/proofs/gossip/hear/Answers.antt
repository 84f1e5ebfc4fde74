use Rattle.std.proofs.Common.{subst}
use Rattle.hg_wire.specs.Ears.{means}
use Rattle.hg_wire.specs.Receiving.{Received}
use Rattle.hg_wire.specs.declared.receiving.Receipt.{Receipt}
use Rattle.relay.proofs.Passing.{heard_none, heard_wrong}
use Rattle.relay.proofs.gossip.hear.Goals as goal

pub returns-in-Ended : goal.returns-in-Ended
returns-in-Ended g c =
    let before = g.S.Source.left c.args.source.now in
    let after = g.S.Source.left c.receive.new.source in
    let received = subst (λ (r : Receipt). Received (means c.new.result) before after r) c.in-Ended.is c.in_ok-message.ensures.received in
    (heard_none c.args.want c.new.result before after _ _ c.in-Ended.at c.new.ensures.heard received, c.receive.ensures.read, c.receive.ensures.counts)

pub returns : goal.returns
returns g c =
    let before = g.S.Source.left c.args.source.now in
    let after = g.S.Source.left c.receive.new.source in
    let received = subst (λ (r : Receipt). Received (means c.new.result) before after r) c.in-Wire.is c.in_ok-message.ensures.received in
    (heard_wrong c.args.want c.new.result before after _ _ c.in-Wire.fault c.new.ensures.heard received, c.receive.ensures.read, c.receive.ensures.counts)
