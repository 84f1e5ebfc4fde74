-- What a table of stakes keeps beside them
use Rattle.std.specs.Prelude.{◌≡◌, ℕ, ◌≤◌, ◌^◌, nat_le, nat_lt, length, Option, IfSome}
use Rattle.hg_model.specs.Stakes.{Stakes, AllWeigh, total}
use Rattle.hg_model.specs.Seeing.{is_supermajority}
use Rattle.hg_bits.specs.Masks.{mask_has}

-- of at most 128 stakes: the set of all members, what they weigh together, the least weight that is more than two thirds
-- of it, and the stake that each has, where one is known
pub record HoldsStakes (stakes : Stakes) (members sum least : ℕ) (each : Option ℕ) : Type 0 where
  pub few : length stakes ≤ 128
  pub all : (m : ℕ) → mask_has members m ≡ nat_lt m (length stakes)
  pub is_sum : sum ≡ total stakes
  pub low : sum ≤ 2 ^ 39
  pub needed : (weight : ℕ) → is_supermajority (total stakes) weight ≡ nat_le least weight
  pub even : IfSome each (λ stake. AllWeigh stakes stake)
