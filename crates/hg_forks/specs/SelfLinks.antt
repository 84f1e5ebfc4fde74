-- Links with their other-parents left out: what forks need of a graph
use Rattle.std.specs.Prelude.{ℕ, ◌≡◌, List, [], ◌∷◌, ◌++◌, length, map, Option}
use Rattle.hg_model.specs.Stakes.{Stakes}
use Rattle.hg_model.specs.Links.{Link, first_place}
use Rattle.hg_model.specs.Forks.{is_fork, has_fork, forkers, forking}
use Rattle.hg_model.specs.Shape.{Shape, FitsLink, shape_of, place_list}

-- the link of a row by this member on this self-parent, if it has one
abbrev pub self_link_of : ℕ → Option ℕ → Link
self_link_of member self_parent = record { creator = member; parents = place_list self_parent }

-- the link without its other-parents
abbrev pub self_link : Link → Link
self_link link = record { creator = link.creator; parents = first_place link.parents }

-- the links without their other-parents
unfoldable pub self_links : List Link → List Link
self_links L = map self_link L

-- the graph without its other-parents
abbrev pub self_shape : Shape → Shape
self_shape shape = shape_of shape.members (self_links shape.links)

-- a graph without its other-parents serves for forks: it grows as the graph does, and has the same forks
pub record SelfLinksServe (n : Stakes) (L : List Link) : Type 0 where
  pub long : length (self_links L) ≡ length L
  pub push : (link : Link) → self_links (L ++ link ∷ []) ≡ self_links L ++ self_link link ∷ []
  pub fits : (link : Link) → FitsLink n L link → FitsLink n (self_links L) (self_link link)
  pub is_fork : (m a b : ℕ) → is_fork (self_links L) m a b ≡ is_fork L m a b
  pub has_fork : (m : ℕ) → has_fork (self_links L) m ≡ has_fork L m
  pub forkers : forkers n (self_links L) ≡ forkers n L
  pub forking : forking n (self_links L) ≡ forking n L

abbrev pub SelfLinksHaveForks : Type 0
SelfLinksHaveForks = (n : Stakes) (L : List Link) → SelfLinksServe n L
