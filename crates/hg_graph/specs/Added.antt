-- The link of a row that comes next
use Rattle.std.specs.Prelude.{◌≡◌, List, [], ◌∷◌, ◌++◌}
use Rattle.hg_model.specs.declared.row.Row.{Row}
use Rattle.hg_model.specs.Stakes.{Stakes}
use Rattle.hg_model.specs.Links.{links, link_in}
use Rattle.hg_model.specs.Graph.{IsShaped}
use Rattle.hg_model.specs.Fits.{Fits}
use Rattle.hg_model.specs.Shape.{FitsLink}

-- a row that fits has a link that fits, which it adds to those of the rows before it
pub record AddsLink (n : Stakes) (G : List Row) (row : Row) : Type 0 where
  pub fits : FitsLink n (links G) (link_in G row)
  pub added : links (G ++ row ∷ []) ≡ links G ++ link_in G row ∷ []

abbrev pub RowsAddLinks : Type 0
RowsAddLinks = (n : Stakes) (G : List Row) (row : Row) → IsShaped n (links G) → Fits n G row → AddsLink n G row
