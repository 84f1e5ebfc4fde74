use Rattle.std.proofs.Common.{◌∙◌, sym, arith}
use Rattle.hg_branches.proofs.own_counts.OwnCounts.new.Goals as goal

pub invariant_of-result : goal.invariant_of-result
invariant_of-result c = record {
  same = c.new-2.ensures.width ∙ sym c.new.ensures.width;
  first = rw c.new.ensures.numbers (omega arith);
  rest = rw c.new-2.ensures.numbers (omega arith);
}
