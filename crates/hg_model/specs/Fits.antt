-- What a row must meet to come after the rows of a graph, told by names
use Rattle.std.specs.Prelude.{ℕ, ◌≡◌, ◌≢◌, ◌<◌, true, List, [], ◌∷◌, length}
use Rattle.std.specs.List.{AllByRecursion}
use Rattle.hg_model.specs.declared.row.Row.{Row}
use Rattle.hg_model.specs.Stakes.{Stakes, member_count}
use Rattle.hg_model.specs.Links.{has_few_others, parent_names, place_of}
use Rattle.hg_model.specs.Graph.{creator_at}

-- each of these names is a row's
abbrev pub AreHeld : List Row → List (List ℕ) → Type 0
AreHeld G names = AllByRecursion (λ name. place_of G name < length G) names

-- the parents of the row stand among these rows
pub record IsPresent (G : List Row) (row : Row) : Type 0 where
  pub held : AreHeld G (parent_names row.parents)

-- of rows with these names the first is by member m, and the later ones are by others
abbrev pub ParentsFit : List Row → ℕ → List (List ℕ) → Type 0
ParentsFit G m [] = Unit {0}
ParentsFit G m (first ∷ others) =
    (creator_at G (place_of G first) ≡ m) × AllByRecursion (λ name. creator_at G (place_of G name) ≢ m) others

-- what a row must meet to come after the rows of a shaped graph: its creator is a member, its parents are few and are
-- held, the first of them by its own creator, the later ones by others
pub record Fits (n : Stakes) (G : List Row) (row : Row) : Type 0 where
  pub member : row.creator < member_count n
  pub few : has_few_others row.parents ≡ true
  pub present : IsPresent G row
  pub parents_fit : ParentsFit G row.creator (parent_names row.parents)
