-- The standings found row by row
use Rattle.std.specs.Prelude.{ℕ, zero, suc, ◌≡◌, List, [], ◌∷◌, ◌++◌, length, take}
use Rattle.hg_model.specs.Places.{IsEarlier}
use Rattle.hg_model.specs.Stakes.{Stakes}
use Rattle.hg_model.specs.Links.{Link, parents}
use Rattle.hg_model.specs.Standings.{Standing, standing_of, standings_of}

-- the standings of the first k rows: of each, that which it has where it is the last row
abbrev pub standings_by_row : Stakes → List Link → ℕ → List Standing
standings_by_row n L zero = []
standings_by_row n L (suc k) = standings_by_row n L k ++ standing_of n (take (suc k) L) k ∷ []

-- they are those of the whole graph
abbrev pub StandingsByRow : Type 0
StandingsByRow = (n : Stakes) (L : List Link) → IsEarlier (parents L) → standings_by_row n L (length L) ≡ standings_of n L
