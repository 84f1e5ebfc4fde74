-- What a peer hands over to a node that has heard of some of its rows before: the events whose names the node lacks
use Rattle.std.specs.Prelude.{ℕ, ◌≡◌, ◌<◌, ◌≤◌, true, cond, List, [], ◌∷◌, ◌++◌, length, take, drop, reverse, get_or, map, slice_get, Option, Some, option_map}
use Rattle.std.specs.List.{AllByRecursion}
use Rattle.hg_model.specs.declared.row.Row.{Row}
use Rattle.hg_model.specs.Held.{lacking, is_held}
use Rattle.hg_model.specs.Links.{no_row}
use Rattle.hg_life.specs.NodeView.{NodeView, node_rows}

-- G has the names of all these rows
abbrev pub AreKnown : List Row → List Row → Type 0
AreKnown G rows = AllByRecursion (λ (row : Row). is_held G row.name ≡ true) rows

-- the names of so many first rows are known, but for those of these rows, which were refused
pub record HeardView : Type 0 where
  pub len : ℕ
  pub refused : List Row

abbrev pub heard_of : ℕ → List Row → HeardView
heard_of len refused = record { len = len; refused = refused }

-- of the first rows of H, G lacks those of the refused whose names it lacks
pub record Knows (G H : List Row) (heard : HeardView) : Type 0 where
  pub within : heard.len ≤ length H
  pub lacks : lacking G (take heard.len H) ≡ lacking G heard.refused

-- of the rows of H, G lacks those of the rest whose names it lacks
abbrev pub LacksOf : List Row → List Row → List Row → Type 0
LacksOf G H rest = lacking G H ≡ lacking G rest

-- of all these first rows
abbrev pub all_heard : ℕ → HeardView
all_heard len = heard_of len []

abbrev pub none_heard : HeardView
none_heard = all_heard 0

-- the row, unless its name is held
abbrev pub unheld : List Row → Row → List Row
unheld held row = cond (is_held held row.name) [] (row ∷ [])

-- these and the peer's row at a place, unless the taker has its name; nothing where there is no row
abbrev pub with_lacked : List Row → List Row → ℕ → List Row → Option (List Row)
with_lacked taker peer place rows = option_map (λ (row : Row). rows ++ unheld taker row) (slice_get peer place)

-- the rows at these places
abbrev pub rows_at : List Row → List ℕ → List Row
rows_at rows = map (λ x. get_or rows x no_row)

-- there are rows at all these places
abbrev pub AreInside : List Row → List ℕ → Type 0
AreInside rows = AllByRecursion (λ x. x < length rows)

-- this place of the peer was pushed behind these, unless the taker has its row's name
abbrev pub PushesLacked : {K L : Type 0} → NodeView K → NodeView L → ℕ → List ℕ → List ℕ → Type 0
PushesLacked taker peer place old new =
    with_lacked (node_rows taker) (node_rows peer) place (rows_at (node_rows peer) old) ≡ Some (rows_at (node_rows peer) new)

-- the row was pushed behind these, unless the taker has its name
abbrev pub PushesUnheld : {K : Type 0} → NodeView K → Row → List Row → List Row → Type 0
PushesUnheld taker row old new = new ≡ old ++ unheld (node_rows taker) row

-- the peer's rows from a place on whose names the taker lacks
abbrev pub lacked_behind : {K L : Type 0} → NodeView K → NodeView L → ℕ → List Row
lacked_behind taker peer from = lacking (node_rows taker) (drop from (node_rows peer))

-- the last one first
abbrev pub lacked_backwards : {K L : Type 0} → NodeView K → NodeView L → ℕ → List Row
lacked_backwards taker peer from = reverse (lacked_behind taker peer from)
