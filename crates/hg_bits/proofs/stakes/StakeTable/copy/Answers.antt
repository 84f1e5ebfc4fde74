use Rattle.hg_bits.proofs.stakes.StakeTable.copy.Goals as goal

pub invariant_of-result : goal.invariant_of-result
invariant_of-result c = rw (c.in_ok-stakes.ensures.items, c.deref.ensures.value) c.self.invariant
