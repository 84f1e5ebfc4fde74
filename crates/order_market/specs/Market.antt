-- The books of the members' nodes: each is a function of the order that its node keeps
use Rattle.std.specs.Prelude.{ℕ, ◌≡◌, ◌<◌, ◌*◌, ◌⊎◌, Bool, cond, ◌&&◌, nat_lt, List, [], ◌∷◌, ◌++◌, fold, get_or, length, map}
use Rattle.std.specs.Option.{option_to_list}
use Rattle.hg_model.specs.declared.row.Row.{Row}
use Rattle.hg_model.specs.declared.row.Placed.{Placed}
use Rattle.hg_model.specs.Stakes.{Stakes, total}
use Rattle.hg_model.specs.Links.{no_row}
use Rattle.hg_life.specs.History.{Change, State, replay}
use Rattle.hg_life.specs.Kept.{kept}
use Rattle.hg_life.specs.NodeView.{NodeView}
use Rattle.hg_model.specs.Orders.{IsPrefix}
use Rattle.hg_runs.specs.Honest.{dishonest, AreApart}
use Rattle.hg_world.specs.declared.step.Step.{Step}
use Rattle.hg_world.specs.declared.step.Step.TheVariants as step
use Rattle.hg_world.specs.World.{Secrets, WorldView, IsMemberOf, run_of}
use Rattle.hg_world.specs.Steps.{after_steps, settle_steps}
use Rattle.hg_world.specs.Syncs.{sync_steps}
use Rattle.order_match.specs.Books.{BookView, Event, book_of, event_of, no_book}
use Rattle.order_match.specs.Laws.{IsEarlier}
use Rattle.order_market.specs.declared.action.Action.{Action}
use Rattle.order_market.specs.declared.action.Action.TheVariants.{Make, Sync, Deliver, Settle}

-- the row at a place as an event of a book: its creator and its payload
abbrev pub event_at : List Row → ℕ → Event
event_at G place = let row = get_or G place no_row in event_of row.creator row.payload

abbrev pub event_in : List Row → Placed → Event
event_in G p = event_at G p.place

-- the events of the order that a node with this history keeps
abbrev pub events_in : Stakes → State → List Event
events_in n s = map (event_in s.rows) (kept n s)

abbrev pub events_after : Stakes → ℕ → List Change → List Event
events_after n c h = events_in n (replay n c h)

abbrev pub events_of : NodeView Secrets → List Event
events_of v = events_after v.start.members v.start.coin v.history

-- those of a member's node, and the book that they make
abbrev pub events_at : WorldView → ℕ → List Event
events_at w m = events_after w.members w.coin (run_of w m)

abbrev pub book_at : WorldView → ℕ → BookView
book_at w m = book_of (events_at w m)

-- there is the book of each node
pub record HasBooks (w : WorldView) (books : List BookView) : Type 0 where
  pub count : length books ≡ length w.sites
  pub each : (m : ℕ) → m < length books → get_or books m no_book ≡ book_at w m

-- the book is that of the first of these events
pub record IsBehind (b : BookView) (events : List Event) : Type 0 where
  pub first : List Event
  pub rest : List Event
  pub whole : events ≡ first ++ rest
  pub is : b ≡ book_of first

-- so is each of the nodes' books
pub record AreBehind (w : WorldView) (books : List BookView) : Type 0 where
  pub count : length books ≡ length w.sites
  pub each : (m : ℕ) → m < length books → IsBehind (get_or books m no_book) (events_at w m)

-- the numbers are those of members
abbrev pub is_action_of : WorldView → Action → Bool
is_action_of w (Make member other time payload) = nat_lt member (length w.sites)
is_action_of w (Sync taker peer time payload) = nat_lt taker (length w.sites) && nat_lt peer (length w.sites)
is_action_of w (Deliver member bytes) = nat_lt member (length w.sites)
is_action_of w (Settle member) = nat_lt member (length w.sites)

-- what is done
abbrev pub action_steps : WorldView → Action → List Step
action_steps w (Make member other time payload) = step.Make member (option_to_list other) time payload ∷ []
action_steps w (Sync taker peer time payload) = sync_steps w taker peer time payload
action_steps w (Deliver member bytes) = step.Deliver member bytes ∷ []
action_steps w (Settle member) = settle_steps member

-- the world after an action; one of a number that is no member's does nothing
abbrev pub after_action : WorldView → Action → WorldView
after_action w action = cond (is_action_of w action) (after_steps w (action_steps w action)) w

abbrev pub after_actions : WorldView → List Action → WorldView
after_actions w actions = fold after_action w actions

-- the events that the first node has ordered begin those of the second, and so its book is an earlier state
abbrev pub IsBookBefore : WorldView → ℕ → ℕ → Type 0
IsBookBefore w j k = IsPrefix (events_at w j) (events_at w k) × IsEarlier (book_at w j) (book_at w k)

-- of the ordered events of any two nodes the ones begin the others, and so do their books, where the dishonest members
-- have less than a third of the stake and names do not collide
abbrev pub AreOneBook : WorldView → Type 0
AreOneBook w =
    3 * dishonest w.members w.coin (run_of w) < total w.members → AreApart w.members w.coin (run_of w) →
    (j k : ℕ) → IsMemberOf w j → IsMemberOf w k → IsBookBefore w j k ⊎ IsBookBefore w k j
