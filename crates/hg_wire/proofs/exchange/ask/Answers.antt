use Rattle.std.proofs.Common.{arith, ap, length, ◌∙◌}
use Rattle.hg_wire.proofs.ExchangeLaws.{few_asked}
use Rattle.hg_wire.proofs.exchange.ask.Goals as goal

pub deliver-requires : goal.deliver-requires
deliver-requires g c =
    let few = few_asked _ _ (c.in_ok-names.ensures.waits.lawful c.requires) in
    omega (arith, few, ap length (c.from_vec.ensures ∙ c.in_ok-names.ensures.names))
