use Rattle.std.proofs.Common.{◌≡◌, ℕ, nat_lt}
use Rattle.hg_bits.specs.Masks.{mask_has}
use Rattle.hg_bits.proofs.stakes.first_members.Given as goal

abbrev pub invariant-loop-m : goal.invariant-loop-m
invariant-loop-m l = (k : ℕ) → mask_has l.all k ≡ nat_lt k l.m
