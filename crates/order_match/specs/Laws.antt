-- What holds of every book, as public functions state it
use Rattle.std.specs.Prelude.{ℕ, ◌+◌, ◌≡◌, ◌<◌, ◌^◌, List, ◌++◌, get_or, length, Result, Ok, Err}
use Rattle.std.specs.List.{sum_by}
use Rattle.order_match.specs.declared.request.Side.{Side}
use Rattle.order_match.specs.declared.request.Side.TheVariants.{Buy, Sell}
use Rattle.order_match.specs.declared.request.Request.{Request}
use Rattle.order_match.specs.declared.request.Request.TheVariants.{Nothing, Place, Cancel}
use Rattle.order_match.specs.declared.request.RequestFault.{RequestFault}
use Rattle.order_match.specs.declared.orders.Order.{Order}
use Rattle.order_match.specs.declared.orders.Trade.{Trade}
use Rattle.order_match.specs.Requests.{read_request, request_bytes}
use Rattle.order_match.specs.Books.{BookView, Event, SideView, book_of, with_events}

-- the first book is an earlier state of the second
abbrev pub IsEarlier : BookView → BookView → Type 0
IsEarlier a b = (events : List Event) × (b ≡ with_events a events)

-- the book of an order that has gone on is that of its first events, with the rest
abbrev pub BooksGoOn : Type 0
BooksGoOn = (events more : List Event) → book_of (events ++ more) ≡ with_events (book_of events) more

-- a book counts its events
abbrev pub EventsAreCounted : Type 0
EventsAreCounted = (b : BookView) (events : List Event) → (with_events b events).events ≡ b.events + length events

-- the orders of a side
abbrev pub side_of : Side → BookView → SideView
side_of Buy b = b.bids
side_of Sell b = b.asks

-- all quantity of orders, and of trades
abbrev pub total : List Order → ℕ
total orders = sum_by (λ (o : Order). o.quantity) orders

abbrev pub traded : List Trade → ℕ
traded trades = sum_by (λ (t : Trade). t.quantity) trades

-- what a payload places on a side
abbrev pub placed_if : Side → Side → ℕ → ℕ
placed_if Buy Buy quantity = quantity
placed_if Buy Sell quantity = 0
placed_if Sell Buy quantity = 0
placed_if Sell Sell quantity = quantity

abbrev pub placed_by : Side → Result Request RequestFault → ℕ
placed_by side (Ok Nothing) = 0
placed_by side (Ok (Place other price quantity)) = placed_if side other quantity
placed_by side (Ok (Cancel number)) = 0
placed_by side (Err fault) = 0

-- all that the events place on a side
abbrev pub placed : Side → List Event → ℕ
placed side events = sum_by (λ (e : Event). placed_by side (read_request e.payload)) events

-- what was placed on a side was traded, or rests, or was taken back. What is traded counts for both sides: as much is
-- bought as is sold
abbrev pub IsWhole : List Event → BookView → Type 0
IsWhole events b = (side : Side) → placed side events ≡ traded b.trades + total (side_of side b).resting + total (side_of side b).cancelled

abbrev pub NothingIsLost : Type 0
NothingIsLost = (events : List Event) → IsWhole events (book_of events)

-- a request whose numbers fit their bytes, and which asks for some quantity
abbrev pub IsRequest : Request → Type 0
IsRequest Nothing = Unit {0}
IsRequest (Place side price quantity) = (price < 2 ^ 32) × (quantity < 2 ^ 32) × (0 < quantity)
IsRequest (Cancel number) = number < 2 ^ 64

-- it is read from its payload
abbrev pub RequestsAreRead : Type 0
RequestsAreRead = (request : Request) → IsRequest request → read_request (request_bytes request) ≡ Ok request

-- what is read from bytes has no other payload
abbrev pub RequestsAreOne : Type 0
RequestsAreOne = (bytes : List ℕ) (request : Request) → ((i : ℕ) → get_or bytes i 0 < 256) → read_request bytes ≡ Ok request →
    IsRequest request × (bytes ≡ request_bytes request)
