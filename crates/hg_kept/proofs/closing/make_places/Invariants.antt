use Rattle.std.proofs.Common.{◌≡◌, ◌+◌, take, vec_len, vec_capacity}
use Rattle.hg_kept.proofs.closing.make_places.Given as goal

abbrev pub invariant-loop : goal.invariant-loop
invariant-loop l =
    (vec_len l.order ≡ vec_len l.fn.order + l.counter) × (take (vec_len l.fn.order) l.order.items ≡ l.fn.order.items) × (vec_capacity l.order ≡ vec_capacity l.fn.order)
