-- The laws of graphs that stand in one larger graph, and the core law of safety
use Rattle.std.specs.Prelude.{ℕ, ◌*◌, ◌<◌, ◌≤◌, ◌≡◌, ◌⊎◌, Bool, false, List, ◌++◌, length, IsTrue}
use Rattle.hg_model.specs.declared.row.Row.{Row}
use Rattle.hg_model.specs.Stakes.{Stakes, member_count, stake_where, total}
use Rattle.hg_model.specs.Links.{links}
use Rattle.hg_model.specs.Fame.{Marks, is_closed}
use Rattle.hg_model.specs.Graph.{IsGraph}
use Rattle.hg_model.specs.Order.{last_closed, order_by_names}
use Rattle.hg_model.specs.Orders.{IsPrefix, marked_order_by_names, HasNameSizes, AreFame}
use Rattle.hg_prefix.specs.Standing.{StandsIn, HasTheSame, IsMarkedPart, HasUniqueFamous}
use Rattle.hg_prefix.specs.Chains.{HaveEqualRows, union, HasOneChain}

-- each row has in a larger graph the ancestors, seeing, strongly seeing, round and votes of its own graph
abbrev pub PartsAreAlike : Type 0
PartsAreAlike = (n : Stakes) (c : ℕ) (G U : List Row) → IsGraph n G → IsGraph n U → StandsIn G U → (x : ℕ) → x < length G → HasTheSame n c G U x

-- where both have closed a round, it has the same unique famous witnesses in both
abbrev pub FamousAreTheSame : Type 0
FamousAreTheSame = (n : Stakes) (c : ℕ) (U G H : List Row) (f h : Marks) → IsGraph n U → 2 < c → IsMarkedPart n c U G f → IsMarkedPart n c U H h →
    (r : ℕ) → IsTrue (is_closed n (links G) f r) → IsTrue (is_closed n (links H) h r) →
    (name : List ℕ) → HasUniqueFamous n G f r name → HasUniqueFamous n H h r name

-- of the two orders by names that of the graph which has closed no more rounds is a prefix of the other
abbrev pub FewerRoundsArePrefixes : Type 0
FewerRoundsArePrefixes = (n : Stakes) (c size : ℕ) (U G H : List Row) (f h : Marks) → IsGraph n U → 2 < c → IsMarkedPart n c U G f → IsMarkedPart n c U H h →
    HasNameSizes size G → HasNameSizes size H → last_closed n (links G) f ≤ last_closed n (links H) h →
    IsPrefix (marked_order_by_names n G f) (marked_order_by_names n H h)

-- so one of the two is a prefix of the other
abbrev pub OrdersArePrefixes : Type 0
OrdersArePrefixes = (n : Stakes) (c size : ℕ) (U G H : List Row) (f h : Marks) → IsGraph n U → 2 < c → IsMarkedPart n c U G f → IsMarkedPart n c U H h →
    HasNameSizes size G → HasNameSizes size H →
    IsPrefix (marked_order_by_names n G f) (marked_order_by_names n H h) ⊎ IsPrefix (marked_order_by_names n H h) (marked_order_by_names n G f)

-- and with the fame of each graph itself as its marks
abbrev pub OwnOrdersArePrefixes : Type 0
OwnOrdersArePrefixes = (n : Stakes) (c size : ℕ) (U G H : List Row) → IsGraph n U → 2 < c → IsGraph n G → StandsIn G U → IsGraph n H → StandsIn H U →
    HasNameSizes size G → HasNameSizes size H →
    IsPrefix (order_by_names n c G) (order_by_names n c H) ⊎ IsPrefix (order_by_names n c H) (order_by_names n c G)

-- the order of a graph, by its own fame, is a prefix of that of each graph in which it stands
abbrev pub OrderOfPartIsPrefix : Type 0
OrderOfPartIsPrefix = (n : Stakes) (c size : ℕ) (G U : List Row) → IsGraph n G → IsGraph n U → 2 < c → StandsIn G U → HasNameSizes size U →
    IsPrefix (order_by_names n c G) (order_by_names n c U)

-- so it only grows when rows come
abbrev pub OrderGrows : Type 0
OrderGrows = (n : Stakes) (c size : ℕ) (G more : List Row) → IsGraph n G → IsGraph n (G ++ more) → 2 < c → HasNameSizes size (G ++ more) →
    IsPrefix (order_by_names n c G) (order_by_names n c (G ++ more))

-- The core law of safety knows no histories: two graphs whose rows of equal names are equal, and for each member but
-- those of less than a third of the stake one chain of rows that has the member's rows of both.

-- they stand in one graph, their union
abbrev pub ChainsStandInOne : Type 0
ChainsStandInOne = (n : Stakes) (G H : List Row) (faulty : ℕ → Bool) → IsGraph n G → IsGraph n H → HaveEqualRows G H →
    3 * stake_where n faulty < total n → ((m : ℕ) → m < member_count n → faulty m ≡ false → HasOneChain m G H) →
    IsGraph n (union G H) × StandsIn G (union G H) × StandsIn H (union G H)

-- and with marks that are their fame one of the two orders is a prefix of the other
abbrev pub OrdersOfChains : Type 0
OrdersOfChains = (n : Stakes) (c size : ℕ) (G H : List Row) (f h : Marks) (faulty : ℕ → Bool) → 2 < c → IsGraph n G → IsGraph n H →
    AreFame n c G f → AreFame n c H h → HaveEqualRows G H → HasNameSizes size G → HasNameSizes size H →
    3 * stake_where n faulty < total n → ((m : ℕ) → m < member_count n → faulty m ≡ false → HasOneChain m G H) →
    IsPrefix (marked_order_by_names n G f) (marked_order_by_names n H h) ⊎ IsPrefix (marked_order_by_names n H h) (marked_order_by_names n G f)

-- so with their own fame as marks
abbrev pub OwnOrdersOfChains : Type 0
OwnOrdersOfChains = (n : Stakes) (c size : ℕ) (G H : List Row) (faulty : ℕ → Bool) → 2 < c → IsGraph n G → IsGraph n H →
    HaveEqualRows G H → HasNameSizes size G → HasNameSizes size H →
    3 * stake_where n faulty < total n → ((m : ℕ) → m < member_count n → faulty m ≡ false → HasOneChain m G H) →
    IsPrefix (order_by_names n c G) (order_by_names n c H) ⊎ IsPrefix (order_by_names n c H) (order_by_names n c G)
