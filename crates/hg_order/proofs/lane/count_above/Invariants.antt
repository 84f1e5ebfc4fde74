use Rattle.std.proofs.Common.{◌≡◌, count_by, nat_lt, slice_index, take}
use Rattle.hg_order.proofs.lane.count_above.Given as goal

abbrev pub invariant-loop-counts : goal.invariant-loop-counts
invariant-loop-counts l = l.lines ≡ count_by (λ counts. nat_lt l.x (slice_index counts l.member)) (take l.counts-index l.last)
