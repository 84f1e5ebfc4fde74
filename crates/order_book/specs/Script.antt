-- What the members of the play do, and what they ask for
use Rattle.std.specs.Prelude.{ℕ, ◌+◌, ◌/◌, ◌%◌, ◌==◌, cond, List, [], ◌∷◌, fold, Option, None, Some}
use Rattle.hg_model.specs.declared.row.Row.{Row}
use Rattle.order_match.specs.declared.orders.Order.{Order}
use Rattle.order_match.specs.declared.request.Request.{Request}
use Rattle.order_match.specs.declared.request.Request.TheVariants.{Nothing, Cancel}
use Rattle.order_market.specs.declared.action.Action.{Action}
use Rattle.order_market.specs.declared.action.Action.TheVariants.{Make, Sync, Deliver, Settle}

-- the time that members claim at a step
abbrev pub time_of : ℕ → ℕ
time_of step = step + 4

-- the members take turns, and each goes round the others
abbrev pub taker_at : ℕ → ℕ
taker_at step = step % 4

abbrev pub peer_at : ℕ → ℕ
peer_at step = (step % 4 + (step / 4 % 3 + 1)) % 4

-- a sync with this payload, and what its taker knows then is published
abbrev pub turn_at : ℕ → List ℕ → List Action
turn_at step payload = Sync (taker_at step) (peer_at step) (time_of step) payload ∷ Settle (taker_at step) ∷ []

-- bytes come to a member's node, which makes an event on theirs
abbrev pub passing : ℕ → List ℕ → List ℕ → ℕ → List Action
passing member bytes name step = Deliver member bytes ∷ Make member (Some name) (time_of step) [] ∷ Settle member ∷ []

-- a member's first event
abbrev pub first_event : ℕ → Action
first_event member = Make member None member []

-- to take back the member's first of these orders
abbrev pub taking_back : List Order → ℕ → Request
taking_back [] member = Nothing
taking_back (o ∷ orders) member = cond (o.member == member) (Cancel o.number) (taking_back orders member)

-- the names of the member's last row but one and of its last one, once there is one row more
abbrev pub with_row : ℕ → Option (List ℕ) × Option (List ℕ) → Row → Option (List ℕ) × Option (List ℕ)
with_row member lasts row = cond (row.creator == member) (lasts.1, Some row.name) lasts

-- these names, of all rows
abbrev pub last_names : ℕ → List Row → Option (List ℕ) × Option (List ℕ)
last_names member rows = fold (with_row member) (None, None) rows
