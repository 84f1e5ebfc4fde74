-- The parents' names where they lie in an event's bytes.
use Rattle.std.specs.Prelude.{ℕ, List, map, take, Option, option_map}
use Rattle.std.specs.Borrow.{Bor}
use Rattle.hg_model.specs.Links.{ParentNames}
use Rattle.hg_event.specs.declared.parents.ParentsView.{ParentsView}

abbrev pub lent_names : List (Bor (List ℕ)) → List (List ℕ)
lent_names names = map (λ name. name.now) names

-- the self-parent's name, and the other-parents' in order
abbrev pub names_in : ParentsView → List ℕ × List (List ℕ)
names_in view = (view.self_parent.now, lent_names (take view.len view.others))

abbrev pub names_lent : Option ParentsView → ParentNames
names_lent parents = option_map names_in parents
