use Rattle.std.proofs.Common.{◌∙◌}
use Rattle.hg_plain.proofs.PrefixLaws.{received_known}
use Rattle.hg_plain.proofs.order.push_round.Goals as goal

pub round_order-requires : goal.round_order-requires
round_order-requires c = c.deref.ensures.value ∙ (c.in_ok-fresh.ensures ∙ received_known c.args.p.now c.args.marks.now c.args.r c.args.received.now c.requires.received)
