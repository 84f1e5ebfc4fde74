-- Frozen rows as callers see them
use Rattle.std.specs.Prelude.{ℕ}
use Rattle.hg_model.specs.Prefix.{Graph}

-- the graph of the rows, how many blocks of 64 of them are shared, and how many stand behind those
pub record FrozenView : Type 0 where
  pub graph : Graph
  pub sealed : ℕ
  pub tail : ℕ
