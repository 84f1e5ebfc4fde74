-- The book of an order of events: one fold over their members and payloads
use Rattle.std.specs.Prelude.{ℕ, ◌+◌, ◌==◌, Bool, cond, not, ◌&&◌, List, [], ◌++◌, fold, Result, Ok, Err}
use Rattle.std.specs.List.{filter}
use Rattle.order_match.specs.declared.request.Side.{Side}
use Rattle.order_match.specs.declared.request.Side.TheVariants.{Buy, Sell}
use Rattle.order_match.specs.declared.request.Request.{Request}
use Rattle.order_match.specs.declared.request.Request.TheVariants.{Nothing, Place, Cancel}
use Rattle.order_match.specs.declared.request.RequestFault.{RequestFault}
use Rattle.order_match.specs.declared.orders.Order.{Order}
use Rattle.order_match.specs.declared.orders.Trade.{Trade}
use Rattle.order_match.specs.Requests.{read_request}
use Rattle.order_match.specs.Matching.{insert_order, met, with_quantity}

-- the orders of a side that rest, best first, and what was left of those that were taken back
pub record SideView : Type 0 where
  pub resting : List Order
  pub cancelled : List Order

-- how many events the book has, how many of them are no requests, its two sides, and its trades
pub record BookView : Type 0 where
  pub events : ℕ
  pub unread : ℕ
  pub bids : SideView
  pub asks : SideView
  pub trades : List Trade

-- who made an event, and its payload
pub record Event : Type 0 where
  pub member : ℕ
  pub payload : List ℕ

abbrev pub event_of : ℕ → List ℕ → Event
event_of member payload = record { member = member; payload = payload }

abbrev pub no_side : SideView
no_side = record { resting = []; cancelled = [] }

-- the book of no events
abbrev pub no_book : BookView
no_book = record { events = 0; unread = 0; bids = no_side; asks = no_side; trades = [] }

-- the side with what is left of an order, in its place
abbrev pub with_left : Side → Order → ℕ → SideView → SideView
with_left side o left s = record {
  resting = cond (left == 0) s.resting (insert_order side (with_quantity o left) s.resting);
  cancelled = s.cancelled;
}

abbrev pub with_resting : SideView → List Order → SideView
with_resting s orders = record { resting = orders; cancelled = s.cancelled }

-- it is the member's order of this number
abbrev pub is_own : ℕ → ℕ → Order → Bool
is_own member number o = o.member == member && o.number == number

-- the side without the member's order of this number
abbrev pub without : ℕ → ℕ → SideView → SideView
without member number s = record {
  resting = filter (λ o. not (is_own member number o)) s.resting;
  cancelled = s.cancelled ++ filter (is_own member number) s.resting;
}

-- an order of a side meets the other side, and what is left of it rests
abbrev pub with_order : BookView → Side → Order → BookView
with_order b Buy o =
    let m = met Buy o b.asks.resting in
    record {
      events = b.events;
      unread = b.unread;
      bids = with_left Buy o m.left b.bids;
      asks = with_resting b.asks m.kept;
      trades = b.trades ++ m.trades;
    }
with_order b Sell o =
    let m = met Sell o b.bids.resting in
    record {
      events = b.events;
      unread = b.unread;
      bids = with_resting b.bids m.kept;
      asks = with_left Sell o m.left b.asks;
      trades = b.trades ++ m.trades;
    }

-- an order has the number of its event
abbrev pub order_of : BookView → ℕ → ℕ → ℕ → Order
order_of b member price quantity = record { number = b.events; member = member; price = price; quantity = quantity }

-- what a member asks for is done
abbrev pub with_request : BookView → ℕ → Request → BookView
with_request b member Nothing = b
with_request b member (Place side price quantity) = with_order b side (order_of b member price quantity)
with_request b member (Cancel number) = record {
  events = b.events;
  unread = b.unread;
  bids = without member number b.bids;
  asks = without member number b.asks;
  trades = b.trades;
}

-- a payload that is no request is counted, and does nothing else
abbrev pub with_unread : BookView → BookView
with_unread b = record { events = b.events; unread = b.unread + 1; bids = b.bids; asks = b.asks; trades = b.trades }

abbrev pub with_read : BookView → ℕ → Result Request RequestFault → BookView
with_read b member (Ok request) = with_request b member request
with_read b member (Err fault) = with_unread b

abbrev pub counted : BookView → BookView
counted b = record { events = b.events + 1; unread = b.unread; bids = b.bids; asks = b.asks; trades = b.trades }

-- the book with one event more
abbrev pub with_event : BookView → Event → BookView
with_event b e = counted (with_read b e.member (read_request e.payload))

-- with several, one after the other
unfoldable pub with_events : BookView → List Event → BookView
with_events b events = fold with_event b events

-- the book of an order of events
abbrev pub book_of : List Event → BookView
book_of events = with_events no_book events
