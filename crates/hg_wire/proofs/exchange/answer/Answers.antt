use Rattle.std.proofs.Common.{arith, ap, length}
use Rattle.hg_life.specs.declared.gossip.Parcel.{Parcel}
use Rattle.hg_wire.proofs.ExchangeLaws.{few_answered}
use Rattle.hg_wire.proofs.exchange.answer.Goals as goal

pub deliver-requires : goal.deliver-requires
deliver-requires g c =
    let few = few_answered _ c.args.names.now _ (c.in_ok-parcel.ensures.waits.lawful c.requires) in
    omega (arith, few, ap (λ (p : Parcel). length p.rows) c.in_ok-parcel.ensures.parcel)
