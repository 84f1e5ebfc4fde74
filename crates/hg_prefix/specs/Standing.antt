-- Graphs whose rows are rows of a larger graph, and graphs with marks
use Rattle.std.specs.Prelude.{ℕ, ◌≡◌, ◌<◌, ◌≤◌, true, List, length, slice_get, IsTrue}
use Rattle.hg_model.specs.declared.row.Row.{Row}
use Rattle.hg_model.specs.Stakes.{Stakes}
use Rattle.hg_model.specs.Links.{links, place_of}
use Rattle.hg_model.specs.Ancestry.{is_ancestor, is_self_ancestor}
use Rattle.hg_model.specs.Seeing.{sees, strongly_sees}
use Rattle.hg_model.specs.Graph.{name_at, IsGraph}
use Rattle.hg_model.specs.Rounds.{round_of, is_witness}
use Rattle.hg_model.specs.Votes.{vote_of, decides}
use Rattle.hg_model.specs.Fame.{Marks, is_unique_famous}
use Rattle.hg_model.specs.Order.{coin_at}
use Rattle.hg_model.specs.Orders.{AreFame}

-- row x of G is a row of U
abbrev pub IsRowOf : List Row → ℕ → List Row → Type 0
IsRowOf G x U = (u : ℕ) × (u < length U) × (slice_get U u ≡ slice_get G x)

-- each row of G is a row of U
pub record StandsIn (G U : List Row) : Type 0 where
  pub row_in : (x : ℕ) → x < length G → IsRowOf G x U

-- the place in U of row x of G, by its name
abbrev pub place_in : List Row → List Row → ℕ → ℕ
place_in U G x = place_of U (name_at G x)

-- row x of G has in U what it has in G
pub record HasTheSame (n : Stakes) (c : ℕ) (G U : List Row) (x : ℕ) : Type 0 where
  pub row : slice_get U (place_in U G x) ≡ slice_get G x
  pub ancestors : (y : ℕ) → y < length G → is_ancestor (links U) (place_in U G x) (place_in U G y) ≡ is_ancestor (links G) x y
  pub self_ancestors : (y : ℕ) → y < length G → is_self_ancestor (links U) (place_in U G x) (place_in U G y) ≡ is_self_ancestor (links G) x y
  pub no_further_ancestor : (u : ℕ) → is_ancestor (links U) (place_in U G x) u ≡ true → (y : ℕ) × (y ≤ x) × (place_in U G y ≡ u)
  pub seeing : (y : ℕ) → y < length G → sees (links U) (place_in U G x) (place_in U G y) ≡ sees (links G) x y
  pub strong_seeing : (y : ℕ) → y < length G → strongly_sees n (links U) (place_in U G x) (place_in U G y) ≡ strongly_sees n (links G) x y
  pub round : round_of n (links U) (place_in U G x) ≡ round_of n (links G) x
  pub witness : is_witness n (links U) (place_in U G x) ≡ is_witness n (links G) x
  pub votes : (y : ℕ) → y < length G → vote_of n c (links U) (coin_at U) (place_in U G y) (place_in U G x) ≡ vote_of n c (links G) (coin_at G) y x
  pub decisions : (y : ℕ) → y < length G → decides n c (links U) (coin_at U) (place_in U G y) (place_in U G x) ≡ decides n c (links G) (coin_at G) y x

-- a graph with marks that are its fame, whose rows are rows of U
pub record IsMarkedPart (n : Stakes) (c : ℕ) (U G : List Row) (marks : Marks) : Type 0 where
  pub graph : IsGraph n G
  pub stands : StandsIn G U
  pub fame : AreFame n c G marks

-- the graph has a unique famous witness of round r with this name
abbrev pub HasUniqueFamous : Stakes → List Row → Marks → ℕ → List ℕ → Type 0
HasUniqueFamous n G marks r name = (w : ℕ) × (w < length G) × (name_at G w ≡ name) × IsTrue (is_unique_famous n (links G) marks r w)
