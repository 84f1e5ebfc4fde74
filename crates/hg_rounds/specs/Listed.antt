-- A list of places
use Rattle.std.specs.Prelude.{ℕ, List}
use Rattle.std.specs.Arc.{arc_value}
use Rattle.hg_rounds.specs.declared.places.Places.{Places}
use Rattle.hg_rounds.specs.declared.places.Places.TheVariants.{Open, Sealed}

-- the places that it has, open or sealed
abbrev pub places_in : Places → List ℕ
places_in (Open places) = places.items
places_in (Sealed places) = (arc_value places).items
