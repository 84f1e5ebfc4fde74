-- Payloads, and what they ask for
use Rattle.std.specs.Prelude.{ℕ, zero, suc, ◌+◌, ◌==◌, cond, List, [], ◌∷◌, ◌++◌, length, take, drop, Result, Ok, Err}
use Rattle.std.specs.Int.{w32, w64, to_be_bytes, from_be_bytes}
use Rattle.order_match.specs.declared.request.Side.{Side}
use Rattle.order_match.specs.declared.request.Side.TheVariants.{Buy, Sell}
use Rattle.order_match.specs.declared.request.Request.{Request}
use Rattle.order_match.specs.declared.request.Request.TheVariants.{Nothing, Place, Cancel}
use Rattle.order_match.specs.declared.request.RequestFault.{RequestFault}
use Rattle.order_match.specs.declared.request.RequestFault.TheVariants.{BadLength, BadKind, NoQuantity}

abbrev pub side_kind : Side → ℕ
side_kind Buy = 0
side_kind Sell = 1

-- the payload of a request: a byte that tells the kind, and then price and quantity, or a number
unfoldable pub request_bytes : Request → List ℕ
request_bytes Nothing = []
request_bytes (Place side price quantity) = side_kind side ∷ (to_be_bytes w32 price ++ to_be_bytes w32 quantity)
request_bytes (Cancel number) = 2 ∷ to_be_bytes w64 number

-- an order of this side, whose price and quantity stand in eight bytes; not of the quantity 0
abbrev pub placing : Side → List ℕ → Result Request RequestFault
placing side fields =
    let quantity = from_be_bytes w32 (drop 4 fields) in
    cond (quantity == 0) (Err NoQuantity) (Ok (Place side (from_be_bytes w32 (take 4 fields)) quantity))

-- the request of this kind
abbrev pub request_of : ℕ → List ℕ → Result Request RequestFault
request_of zero fields = placing Buy fields
request_of (suc zero) fields = placing Sell fields
request_of (suc (suc zero)) fields = Ok (Cancel (from_be_bytes w64 fields))
request_of (suc (suc (suc k))) fields = Err (BadKind (suc (suc (suc k))))

-- the request that a payload spells, or its first fault
unfoldable pub read_request : List ℕ → Result Request RequestFault
read_request [] = Ok Nothing
read_request (kind ∷ fields) = cond (length fields == 8) (request_of kind fields) (Err (BadLength (length fields + 1)))
