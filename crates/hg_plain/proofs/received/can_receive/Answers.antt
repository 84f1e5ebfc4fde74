use Rattle.std.proofs.Common.{◌∙◌, sym, arith, le-ltb}
use Rattle.hg_order.proofs.ReceivedLaws.{none_where_open, none_received}
use Rattle.hg_plain.proofs.received.can_receive.Goals as goal

pub returns-then-not-decided : goal.returns-then-not-decided
returns-then-not-decided c = sym (none_where_open _ _ c.args.marks.now c.args.x c.args.r (sym c.requires.closed ∙ c.if-not-decided.true))

pub returns-else-count-gt0 : goal.returns-else-count-gt0
returns-else-count-gt0 c =
    let count = c.unique_famous-count.ensures.count in
    let few = c.if-count-gt0.false in
    le-ltb 0 c.unique_famous-count.result few
    ∙ sym (none_received _ _ c.args.marks.now c.args.x c.args.r (omega arith))
