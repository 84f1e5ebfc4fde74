-- On what terms the node of a member takes and makes rows
use Rattle.std.specs.Prelude.{ℕ}
use Rattle.hg_life.specs.Signing.{Accepts}

-- which signatures are accepted, and how many rows the node holds at most
pub record Terms : Type 0 where
  pub accepts : Accepts
  pub limit : ℕ

-- the greatest limit
abbrev pub row_limit : ℕ
row_limit = 1048576
