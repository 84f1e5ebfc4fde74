-- What each of some nodes has heard of each one's rows
use Rattle.std.specs.Prelude.{ℕ, zero, suc, ◌≡◌, ◌<◌, ◌==◌, ◌&&◌, Bool, cond, nat_lt, List, [], length, get_or, replicate, slice_set}
use Rattle.hg_model.specs.declared.row.Row.{Row}
use Rattle.hg_model.specs.Orders.{IsPrefix}
use Rattle.hg_gossip.specs.Handing.{AreKnown, HeardView, Knows, LacksOf, all_heard, none_heard}

-- what node x has heard of node y
abbrev pub heard_by : List (List HeardView) → ℕ → ℕ → HeardView
heard_by known x y = get_or (get_or known x []) y none_heard

-- once it has heard this
abbrev pub with_heard : List (List HeardView) → ℕ → ℕ → HeardView → List (List HeardView)
with_heard known x y heard = slice_set known x (slice_set (get_or known x []) y heard)

-- so many nodes that have heard of nothing
abbrev pub nothing_heard : ℕ → List (List HeardView)
nothing_heard count = replicate count (replicate count none_heard)

-- each node has heard of as many as there are
abbrev pub IsSquare : List (List HeardView) → Type 0
IsSquare known = (x : ℕ) → x < length known → length (get_or known x []) ≡ length known

-- one has refused nothing, and has more than another
abbrev pub is_more : HeardView → HeardView → Bool
is_more heard other = (length heard.refused == 0) && nat_lt other.len heard.len

-- what y has of z, with nothing refused, x has too
abbrev pub handed : List (List HeardView) → ℕ → ℕ → ℕ → List (List HeardView)
handed known x y z = cond (is_more (heard_by known y z) (heard_by known x z)) (with_heard known x z (all_heard (heard_by known y z).len)) known

-- so of each of the first nodes, one after the other
abbrev pub handed_on : List (List HeardView) → ℕ → ℕ → ℕ → List (List HeardView)
handed_on known x y zero = known
handed_on known x y (suc z) = handed (handed_on known x y z) x y z

-- x has the names of all `len` rows of y, and what y has of any node, with nothing refused
abbrev pub all_noted : List (List HeardView) → ℕ → ℕ → ℕ → List (List HeardView)
all_noted known x y len = with_heard (handed_on known x y (length known)) x y (all_heard len)

-- the rows of the node at a place
abbrev pub nth_rows : List (List Row) → ℕ → List Row
nth_rows rows m = get_or rows m []

-- of nodes with these rows each has of each what it has heard
pub record KeepsKnown (rows : List (List Row)) (known : List (List HeardView)) : Type 0 where
  pub long : length known ≡ length rows
  pub each : (x y : ℕ) → x < length rows → y < length rows → Knows (nth_rows rows x) (nth_rows rows y) (heard_by known x y)

-- so many nodes, of whatever rows
abbrev pub KeepsAny : ℕ → List (List HeardView) → Type 0
KeepsAny count known = (rows : List (List Row)) → length rows ≡ count → KeepsKnown rows known

-- x has the names of all rows of y, which are so many
pub record HasAll (rows : List (List Row)) (x y len : ℕ) : Type 0 where
  pub count : len ≡ length (nth_rows rows y)
  pub all : AreKnown (nth_rows rows x) (nth_rows rows y)

-- of the rows of y, which are so many, x lacks the names of some of these at most
pub record HasRest (rows : List (List Row)) (x y len : ℕ) (rest : List Row) : Type 0 where
  pub count : len ≡ length (nth_rows rows y)
  pub lacks : LacksOf (nth_rows rows x) (nth_rows rows y) rest

-- it is kept for the nodes still, where x has all of y
abbrev pub KeepsAll : List (List HeardView) → ℕ → ℕ → ℕ → List (List HeardView) → Type 0
KeepsAll old x y len new = (rows : List (List Row)) → KeepsKnown rows old → HasAll rows x y len → KeepsKnown rows new

-- and where x has all of y but for some of these
abbrev pub KeepsRest : List (List HeardView) → ℕ → ℕ → ℕ → List Row → List (List HeardView) → Type 0
KeepsRest old x y len rest new = (rows : List (List Row)) → KeepsKnown rows old → HasRest rows x y len rest → KeepsKnown rows new

-- as many nodes, each of which has its rows still, and perhaps more
pub record AreLonger (rows longer : List (List Row)) : Type 0 where
  pub count : length longer ≡ length rows
  pub each : (m : ℕ) → m < length rows → IsPrefix (nth_rows rows m) (nth_rows longer m)

-- it is kept for good
abbrev pub KnownForGood : Type 0
KnownForGood = (rows longer : List (List Row)) (known : List (List HeardView)) → AreLonger rows longer → KeepsKnown rows known → KeepsKnown longer known
