-- What a node tells of itself, without a change
use Rattle.std.specs.Prelude.{ℕ, ◌-◌, ◌==◌, Bool, ◌&&◌, not, nat_le, is_some, List, [], length, map, zip, take, drop, get_or, count_by, Option, option_map, unwrap_or}
use Rattle.hg_model.specs.Forks.{forkers}
use Rattle.hg_model.specs.Links.{Link, links, no_row}
use Rattle.hg_model.specs.Places.{list_below}
use Rattle.hg_model.specs.Rounds.{last_round}
use Rattle.hg_model.specs.Stakes.{member_count}
use Rattle.hg_model.specs.declared.row.Placed.{Placed}
use Rattle.hg_model.specs.declared.row.Row.{Row}
use Rattle.hg_life.specs.Members.{MemberList}
use Rattle.hg_life.specs.NodeView.{NodeView, book_kept, kept_of, last_closed_of, node_rows}
use Rattle.hg_life.specs.Spelling.{spelling}
use Rattle.hg_life.specs.Verdict.{last_name}
use Rattle.hg_life.specs.declared.pay.Effect.{Effect}
use Rattle.hg_node.specs.Beyond.{bytes_at, is_behind_some}
use Rattle.hg_node.specs.ChronicleView.{last_own_place}
use Rattle.hg_outcome.specs.Ledger.{order_line}
use Rattle.hg_service.specs.Binding.{digest_of, strange_in}
use Rattle.hg_service.specs.declared.answer.Answer.{Answer}
use Rattle.hg_service.specs.declared.answer.Answer.TheVariants as answer
use Rattle.hg_service.specs.declared.answer.OrderedEvent.{OrderedEvent}

-- at most `limit` of these, the first of them at this place
abbrev pub window : {A : Type 0} → ℕ → ℕ → List A → List A
window from limit xs = take limit (drop from xs)

-- ---- counts

abbrev pub has_payload : Row → Bool
has_payload row = not (length row.payload == 0)

-- an ordered row that has one
abbrev pub orders_payload : List Row → Placed → Bool
orders_payload G p = has_payload (get_or G p.place no_row)

-- how many rows have a payload, but for those that are ordered
unfoldable pub waiting : List Row → List Placed → ℕ
waiting G order = count_by has_payload G - count_by (orders_payload G) order

-- place and time of the node's last own row, if it has one
abbrev pub placed_time : List Row → ℕ → ℕ × ℕ
placed_time G p = (p, (get_or G p no_row).time)

abbrev pub last_told : {K : Type 0} → NodeView K → Option (ℕ × ℕ)
last_told v = option_map (placed_time (node_rows v)) (last_own_place v.start.own (node_rows v))

abbrev pub state_told : {K : Type 0} → MemberList → NodeView K → Bool → Answer
state_told members v impostor = answer.State
    (length (node_rows v)) (forkers v.start.members (links (node_rows v))) (last_round v.start.members (links (node_rows v)))
    (last_closed_of v) (length (kept_of v)) (waiting (node_rows v) (kept_of v)) (last_told v) impostor (strange_in members (node_rows v))

abbrev pub members_told : {K : Type 0} → MemberList → NodeView K → Answer
members_told members v = answer.Members v.start.own (digest_of members)

-- ---- rows

-- The names of the last rows of so many members, by member. Whoever answers has its own last row; so if the one that asks has a
-- row by that member, the name of the last of these is among the heads, and of what the other has beyond them it made or learnt
-- all since
abbrev pub heads_in : List Row → ℕ → List (List ℕ)
heads_in G count = list_below (λ m. unwrap_or (last_name m G) []) count (λ m. is_some (last_name m G))

unfoldable pub heads : {K : Type 0} → NodeView K → List (List ℕ)
heads v = heads_in (node_rows v) (member_count v.start.members)

-- the row stands at this place or behind it, and is an ancestor of no row with one of these names
abbrev pub is_beyond_from : List Row → ℕ → List (List ℕ) → ℕ → Bool
is_beyond_from G from names x = nat_le from x && not (is_behind_some G names x)

-- the bytes of such rows
unfoldable pub bytes_beyond_from : List Row → ℕ → List (List ℕ) → List (List ℕ)
bytes_beyond_from G from names = list_below (bytes_at G) (length G) (is_beyond_from G from names)

-- the first of them, and how many there are
abbrev pub beyond_told : {K : Type 0} → NodeView K → ℕ → ℕ → List (List ℕ) → Answer
beyond_told v from limit names =
    let beyond = bytes_beyond_from (node_rows v) from names in
    answer.Beyond (length beyond) (length (node_rows v)) (take limit beyond)

abbrev pub events_told : {K : Type 0} → NodeView K → ℕ → ℕ → Answer
events_told v from limit = answer.Events (length (node_rows v)) (window from limit (map spelling (node_rows v)))

-- ---- the order

abbrev pub ordered_event : List Row → List Link → Placed × Effect → OrderedEvent
ordered_event G L x = record { line = order_line G L x.0 x.1; payload = (get_or G x.0.place no_row).payload }

-- the same of a node's rows
abbrev pub ordered_here : {K : Type 0} → NodeView K → Placed → Effect → OrderedEvent
ordered_here v p e = ordered_event (node_rows v) (links (node_rows v)) (p, e)

-- the order with what came of each event
abbrev pub ordered_events : {K : Type 0} → NodeView K → List OrderedEvent
ordered_events v = map (ordered_event (node_rows v) (links (node_rows v))) (zip (kept_of v) (book_kept v).effects)

abbrev pub order_told : {K : Type 0} → NodeView K → ℕ → ℕ → Answer
order_told v first limit = answer.Order (length (kept_of v)) first (window (first - 1) limit (ordered_events v))

abbrev pub balances_told : {K : Type 0} → NodeView K → Answer
balances_told v = answer.Balances (length (kept_of v)) (book_kept v).balances
