use Rattle.std.proofs.Common.{refl, zero-add}
use Rattle.std.proofs.lemmas.List.FromFn.{map-range_with_len_more}
use Rattle.order_book.specs.Script.{first_event}
use Rattle.order_book.proofs.script.opening.Goals as goal

pub loop-member-preserved : goal.loop-member-preserved
loop-member-preserved c =
    let next = map-range_with_len_more first_event 0 c.loop-member.member c.loop-member.member (zero-add c.loop-member.member) in
    rw (c.in_ok-push.ensures.items, c.loop-member.invariant, c.from.ensures, c.new.ensures, next) refl
