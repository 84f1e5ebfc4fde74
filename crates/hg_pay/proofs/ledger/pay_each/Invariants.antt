use Rattle.std.proofs.Common.{◌≡◌, ◌+◌, fold, take, vec_len, vec_capacity}
use Rattle.hg_life.specs.Pay.{with_placed}
use Rattle.hg_pay.specs.Applied.{book_with}
use Rattle.hg_pay.proofs.ledger.pay_each.Given as goal

abbrev pub invariant-loop-placed : goal.invariant-loop-placed
invariant-loop-placed g l =
    (book_with l.book l.effects.items ≡ fold (with_placed (g.P.Prefix.graph l.p).rows) (book_with l.fn.book l.fn.effects.items) (take l.placed-index l.order))
    × (vec_len l.effects ≡ vec_len l.fn.effects + l.placed-index)
    × (vec_capacity l.effects ≡ vec_capacity l.fn.effects)
