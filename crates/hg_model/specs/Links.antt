-- The shape of the graph: of each event its creator and the places of its parents. SWIRLDS-TR-2016-01, section 3.
-- A departure: events stand in a list, each after its parents, and are told by their places in it.
use Rattle.std.specs.Prelude.{ℕ, Bool, true, ◌&&◌, nat_lt, nat_le, List, [], ◌∷◌, length, map, Option, Some, None, slice_get}
use Rattle.std.specs.List.{position_or_len}
use Rattle.std.specs.Str.{bytes_eq}
use Rattle.hg_model.specs.declared.row.Row.{Row}

-- an event's creator, and its parents' places, the self-parent's first
pub record Link : Type 0 where
  pub creator : ℕ
  pub parents : List ℕ

-- the names of a row's self-parent and of its other-parents, if it has parents
abbrev pub ParentNames : Type 0
ParentNames = Option (List ℕ × List (List ℕ))

-- these names, the self-parent's first
abbrev pub parent_names : ParentNames → List (List ℕ)
parent_names None = []
parent_names (Some names) = names.0 ∷ names.1

-- how many other-parents a row may have at most, and how many parents
abbrev pub most_others : ℕ
most_others = 4

abbrev pub most_parents : ℕ
most_parents = 5

-- no parents, or a self-parent and one to four other-parents
abbrev pub has_few_others : ParentNames → Bool
has_few_others None = true
has_few_others (Some names) = nat_lt 0 (length names.1) && nat_le (length names.1) most_others

-- the row has this name
abbrev pub is_named : List ℕ → Row → Bool
is_named name row = bytes_eq row.name name

-- a row for where there is none
abbrev pub no_row : Row
no_row = record { creator = 0; parents = None; time = 0; payload = []; sig = []; name = [] }

-- the place of the first row with this name, or the number of rows
abbrev pub place_of : List Row → List ℕ → ℕ
place_of G name = position_or_len (is_named name) G

-- the row's link, its parents looked up among these rows
abbrev pub link_in : List Row → Row → Link
link_in G row = record { creator = row.creator; parents = map (place_of G) (parent_names row.parents) }

-- the links of the rows
unfoldable pub links : List Row → List Link
links G = map (link_in G) G

abbrev pub parents_in : Option Link → List ℕ
parents_in None = []
parents_in (Some link) = link.parents

abbrev pub creator_in : Option Link → ℕ
creator_in None = 0
creator_in (Some link) = link.creator

abbrev pub first_place : List ℕ → List ℕ
first_place [] = []
first_place (p ∷ ps) = p ∷ []

abbrev pub later_places : List ℕ → List ℕ
later_places [] = []
later_places (p ∷ ps) = ps

-- the places of the parents of x, the self-parent's first
unfoldable pub parents : List Link → ℕ → List ℕ
parents L x = parents_in (slice_get L x)

-- the place of the self-parent of x, if it has one
unfoldable pub self_parent : List Link → ℕ → List ℕ
self_parent L x = first_place (parents L x)

-- the places of the other-parents of x
unfoldable pub other_parents : List Link → ℕ → List ℕ
other_parents L x = later_places (parents L x)

-- the creator of x
unfoldable pub creator : List Link → ℕ → ℕ
creator L x = creator_in (slice_get L x)
