use Rattle.std.proofs.Common.{◌≡◌, ◌<◌, ℕ}
use Rattle.hg_model.specs.Stakes.{stake_of}
use Rattle.hg_bits.proofs.stakes.even_stake.Given as goal

abbrev pub invariant-loop-m : goal.invariant-loop-m
invariant-loop-m l = (k : ℕ) → k < l.m → stake_of l.stakes k ≡ l.first
