use Rattle.hg_order.proofs.ReceivedLaws.{received_below, received_some}
use Rattle.hg_plain.proofs.order.place_fresh.Goals as goal

pub order_round-requires-clause-some : goal.order_round-requires-clause-some
order_round-requires-clause-some c some =
    rw c.unique_famous-count.ensures.front (received_some c.args.p.now c.args.marks.now c.args.r (rw c.requires.fresh at some))

pub order_round-requires-clause-received : goal.order_round-requires-clause-received
order_round-requires-clause-received c =
    rw (c.unique_famous-count.ensures.front, c.requires.fresh) (received_below c.args.p.now c.args.marks.now c.args.r)
