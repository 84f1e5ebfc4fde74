-- The order that a node keeps: by the marks that it has published. SWIRLDS-TR-2016-01, section 4, procedure findOrder
use Rattle.std.specs.Prelude.{ℕ, zero, suc, ◌==◌, List, [], ◌++◌, map}
use Rattle.hg_model.specs.declared.row.Placed.{Placed}
use Rattle.hg_model.specs.Stakes.{Stakes}
use Rattle.hg_model.specs.Order.{ordered_in, ordered, Ordered, named_in}
use Rattle.hg_life.specs.History.{State}

-- the order that a node keeps
abbrev pub kept : Stakes → State → List Placed
kept n s = ordered n s.rows s.links s.marks

-- what just round r received
abbrev pub kept_in : Stakes → State → ℕ → List Placed
kept_in n s r = ordered_in n s.rows s.links s.marks (λ k. k == r)

-- what the rounds 1 to r received, one after the other
unfoldable pub kept_up_to : Stakes → State → ℕ → List Placed
kept_up_to n s zero = []
kept_up_to n s (suc r) = kept_up_to n s r ++ kept_in n s (suc r)

-- all of it by names
abbrev pub kept_by_names : Stakes → State → List Ordered
kept_by_names n s = map (named_in s.rows) (kept n s)
