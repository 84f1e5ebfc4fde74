-- Where a walk over a payload's transfers has come to
use Rattle.std.proofs.Common.{◌≡◌, ℕ, List}
use Rattle.hg_life.specs.Pay.{Paying}
use Rattle.hg_pay.specs.Applied.{done_bits}

-- the balances and the bits are those of p
pub record HasCome (p : Paying) (balances : List ℕ) (bits : ℕ) : Type 0 where
  pub left : balances ≡ p.balances
  pub matches : bits ≡ done_bits p.done
