-- The orders of a world that are compared
use Rattle.std.specs.Prelude.{ℕ, ◌<◌, List, [], get_or, length, slice_get, IfSome}
use Rattle.std.specs.List.{AllPairs}
use Rattle.hg_model.specs.Places.{table}
use Rattle.hg_life.specs.NodeView.{NodeView}
use Rattle.hg_model.specs.Order.{Ordered}
use Rattle.hg_model.specs.Orders.{IsPrefix}
use Rattle.hg_runs.specs.Safety.{IsOnePrefix, order_after}
use Rattle.hg_world.specs.World.{Secrets, WorldView, node_at}

-- the order that the node keeps: of each event its name, round received and consensus timestamp
abbrev pub kept_order : NodeView Secrets → List Ordered
kept_order v = order_after v.start.members v.start.coin v.history

-- the orders that the nodes keep, in the order of the members
abbrev pub orders_in : WorldView → List (List Ordered)
orders_in w = table (λ m. kept_order (node_at w m)) (length w.sites)

-- of any two of them one is a prefix of the other
abbrev pub AreOneOrder : List (List Ordered) → Type 0
AreOneOrder orders = AllPairs IsOnePrefix orders

-- each begins with that which stood in its place before, if any did
abbrev pub HaveGrown : List (List Ordered) → List (List Ordered) → Type 0
HaveGrown before orders = (m : ℕ) → m < length orders → IfSome (slice_get before m) (λ order. IsPrefix order (get_or orders m []))
