-- How far rounds go
use Rattle.std.proofs.Common.{ℕ, zero, suc, ◌≤◌, ◌<◌, List, length, arith}
use Rattle.hg_model.specs.Places.{maximum_below, IsEarlier}
use Rattle.hg_model.specs.Stakes.{Stakes}
use Rattle.hg_model.specs.Links.{Link, parents}
use Rattle.hg_model.specs.Rounds.{round_of, last_round}
use Rattle.hg_model.proofs.RoundLaws.{round_of-le}

maximum_below-le : (value : ℕ → ℕ) (n m : ℕ) → ((k : ℕ) → k < n → value k ≤ m) → maximum_below value n ≤ m
unfolding maximum_below
maximum_below-le value zero m le = omega arith
maximum_below-le value (suc n) m le = omega (arith, maximum_below-le value n m (λ k h. le k (omega arith)), le n (omega arith))

-- no round is above the number of rows
pub last_round-le : (n : Stakes) (L : List Link) → IsEarlier (parents L) → last_round n L ≤ length L
unfolding last_round
last_round-le n L e = maximum_below-le (round_of n L) (length L) (length L) (λ k h. omega (arith, round_of-le n L e k))
