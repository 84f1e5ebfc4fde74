-- The shape of a graph, and of it with a row more or with fewer rows
use Rattle.std.specs.Prelude.{ℕ, ◌<◌, ◌≤◌, ◌≡◌, ◌≢◌, true, List, [], ◌∷◌, ◌++◌, length, take, Option, Some, None}
use Rattle.hg_model.specs.Places.{has_place}
use Rattle.hg_model.specs.Stakes.{Stakes, member_count}
use Rattle.hg_model.specs.Links.{Link, first_place, later_places, creator, most_parents}

-- the members' stakes, and the links of the rows
pub record Shape : Type 0 where
  pub members : Stakes
  pub links : List Link

abbrev pub shape_of : Stakes → List Link → Shape
shape_of members links = record { members = members; links = links }

-- a place, if there is one, as a list
abbrev pub place_list : Option ℕ → List ℕ
place_list None = []
place_list (Some p) = p ∷ []

-- the link of a row by this member on parents at these places, the self-parent's first
abbrev pub link_of : ℕ → List ℕ → Link
link_of member places = record { creator = member; parents = places }

-- the graph with one row more
abbrev pub with_link : Shape → Link → Shape
with_link shape link = shape_of shape.members (shape.links ++ link ∷ [])

-- the graph of the first rows
abbrev pub first_links : Shape → ℕ → Shape
first_links shape len = shape_of shape.members (take len shape.links)

-- what a link must meet to come after these: its creator is a member, its parents are few and are there, the self-parent
-- is by its creator, and other-parents are by others
pub record FitsLink (n : Stakes) (L : List Link) (link : Link) : Type 0 where
  pub member : link.creator < member_count n
  pub few : length link.parents ≤ most_parents
  pub earlier : (p : ℕ) → has_place link.parents p ≡ true → p < length L
  pub self_by_same : (p : ℕ) → has_place (first_place link.parents) p ≡ true → creator L p ≡ link.creator
  pub others_by_others : (p : ℕ) → has_place (later_places link.parents) p ≡ true → creator L p ≢ link.creator

-- a graph, and for how many more rows there is memory
pub record ShapeWithRoom : Type 0 where
  pub shape : Shape
  pub room : ℕ
