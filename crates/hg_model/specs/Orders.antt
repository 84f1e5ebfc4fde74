-- Orders by names, of a graph with any marks, and one as a prefix of another
use Rattle.std.specs.Prelude.{ℕ, ◌≡◌, ◌<◌, Bool, List, ◌++◌, length, map, Some}
use Rattle.hg_model.specs.declared.row.Row.{Row}
use Rattle.hg_model.specs.Stakes.{Stakes}
use Rattle.hg_model.specs.Links.{links}
use Rattle.hg_model.specs.Graph.{name_at}
use Rattle.hg_model.specs.Fame.{Marks, mark_at, fame_of}
use Rattle.hg_model.specs.Order.{coin_at, ordered, Ordered, named_in}

-- the first list is a prefix of the second
abbrev pub IsPrefix : {A : Type 0} → List A → List A → Type 0
IsPrefix {A} xs ys = (rest : List A) × (ys ≡ xs ++ rest)

-- the order of a graph with these marks, by names
abbrev pub marked_order_by_names : Stakes → List Row → Marks → List Ordered
marked_order_by_names n G marks = map (named_in G) (ordered n G (links G) marks)

-- all names have one size, so that the keys of the order tell them apart
pub record HasNameSizes (size : ℕ) (G : List Row) : Type 0 where
  pub sized : (x : ℕ) → x < length G → length (name_at G x) ≡ size

-- each mark is the fame of the graph
pub record AreFame (n : Stakes) (c : ℕ) (G : List Row) (marks : Marks) : Type 0 where
  pub fame : (x : ℕ) (v : Bool) → mark_at marks x ≡ Some v → fame_of n c (links G) (coin_at G) x ≡ Some v
