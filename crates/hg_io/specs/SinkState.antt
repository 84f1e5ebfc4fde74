-- A sink in memory, as its users see it.
use Rattle.std.specs.Prelude.{ℕ, ◌-◌, ◌<◌, ◌≤◌, ◌⊎◌, List, [], ◌++◌, length, min, take, Contains, Result, Ok, Err}
use Rattle.hg_io.specs.Faults.{raised}

pub record SinkState : Type 0 where
  -- what it took so far, and the greatest number of bytes that it takes in all
  pub bytes : List ℕ
  pub room : ℕ
  -- the greatest number of bytes that it takes in one call
  pub most : ℕ
  -- the numbers of the calls that fail
  pub fails : List ℕ
  -- how many calls there were, and how many of them failed
  pub calls : ℕ
  pub faults : ℕ

-- a sink that was not called yet
abbrev pub new_sink : ℕ → ℕ → List ℕ → SinkState
new_sink room most fails = record { bytes = []; room = room; most = most; fails = fails; calls = 0; faults = 0 }

-- the next call with this piece fails: its number is listed, or no room is left for a byte that there is
abbrev pub Refuses : SinkState → List ℕ → Type 0
Refuses s piece = Contains s.fails s.calls ⊎ ((s.room ≤ length s.bytes) × (0 < length piece))

-- how many bytes of this piece it takes, if it does not fail
abbrev pub taken_count : SinkState → List ℕ → ℕ
taken_count s piece = min (min (length piece) s.most) (s.room - length s.bytes)

-- the sink after a call with this piece that gave this
abbrev pub after_write : {E : Type 0} → SinkState → List ℕ → Result ℕ E → SinkState
after_write s piece (Ok k) = record s { bytes = s.bytes ++ take k piece; calls = raised s.calls }
after_write s piece (Err e) = record s { calls = raised s.calls; faults = raised s.faults }
