use Rattle.std.proofs.Common.{◌∙◌, ◌+◌, ◌*◌, ◌/◌, ap, sym, nat_le}
use Rattle.hg_model.proofs.StakeLaws.{least_supermajority}
use Rattle.hg_bits.proofs.stakes.StakeTable.new.Goals as goal

pub invariant_of-result : goal.invariant_of-result
invariant_of-result c = rw c.in_ok-from_slice.ensures.items (record {
  few = c.requires;
  all = λ m. c.first_members.ensures m;
  is_sum = c.sum_stakes-total.ensures.value;
  low = c.sum_stakes-total.ensures.low;
  needed = λ weight. least_supermajority _ weight ∙ ap (λ all. nat_le (2 * all / 3 + 1) weight) (sym c.sum_stakes-total.ensures.value);
  even = c.even_stake.ensures;
})
