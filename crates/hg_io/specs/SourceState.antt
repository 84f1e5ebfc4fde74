-- A source in memory, as its users see it.
use Rattle.std.specs.Prelude.{ℕ, List, drop, length, min, Result, Ok, Err}
use Rattle.hg_io.specs.Faults.{raised}

pub record SourceState : Type 0 where
  -- what is still to come, and the greatest number of bytes that it gives in one call
  pub left : List ℕ
  pub most : ℕ
  -- the numbers of the calls that fail
  pub fails : List ℕ
  -- how many calls there were, and how many of them failed
  pub calls : ℕ
  pub faults : ℕ

-- a source that was not called yet
abbrev pub new_source : List ℕ → ℕ → List ℕ → SourceState
new_source bytes most fails = record { left = bytes; most = most; fails = fails; calls = 0; faults = 0 }

-- how many bytes it gives to a buffer of this size, if it does not fail
abbrev pub given_count : SourceState → ℕ → ℕ
given_count s size = min (length s.left) (min size s.most)

-- the source after a call that gave this
abbrev pub after_give : {E : Type 0} → SourceState → Result ℕ E → SourceState
after_give s (Ok k) = record s { left = drop k s.left; calls = raised s.calls }
after_give s (Err e) = record s { calls = raised s.calls; faults = raised s.faults }
