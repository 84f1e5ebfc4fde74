-- An order meets those that rest on the other side: the best price first, then the earlier; a trade is at the price of the
-- order that rested
use Rattle.std.specs.Prelude.{ℕ, ◌-◌, ◌==◌, Bool, cond, nat_lt, nat_le, min, List, [], ◌∷◌, ◌++◌, fold}
use Rattle.order_match.specs.declared.request.Side.{Side}
use Rattle.order_match.specs.declared.request.Side.TheVariants.{Buy, Sell}
use Rattle.order_match.specs.declared.orders.Order.{Order}
use Rattle.order_match.specs.declared.orders.Trade.{Trade}

-- for an order of this side the price that rests on the other is good enough
abbrev pub is_good_enough : Side → ℕ → ℕ → Bool
is_good_enough Buy price resting = nat_le resting price
is_good_enough Sell price resting = nat_le price resting

-- among the orders of this side the first price comes before the second
abbrev pub is_better : Side → ℕ → ℕ → Bool
is_better Buy a b = nat_lt b a
is_better Sell a b = nat_lt a b

-- the order with another quantity
abbrev pub with_quantity : Order → ℕ → Order
with_quantity o quantity = record { number = o.number; member = o.member; price = o.price; quantity = quantity }

-- how much the rest of the incoming order trades with one that rests
abbrev pub quantity_met : Side → ℕ → ℕ → Order → ℕ
quantity_met side price left resting = cond (is_good_enough side price resting.price) (min left resting.quantity) 0

abbrev pub trade_of : Side → Order → Order → ℕ → Trade
trade_of Buy taker resting quantity = record { buyer = taker.member; seller = resting.member; price = resting.price; quantity = quantity }
trade_of Sell taker resting quantity = record { buyer = resting.member; seller = taker.member; price = resting.price; quantity = quantity }

-- nothing of the quantity 0, else this
abbrev pub unless_zero : {A : Type 0} → ℕ → A → List A
unless_zero quantity x = cond (quantity == 0) [] (x ∷ [])

-- what is left of the incoming order, its trades, and what still rests of the orders that it met
pub record Meeting : Type 0 where
  pub left : ℕ
  pub trades : List Trade
  pub kept : List Order

-- one resting order more is met
abbrev pub meet : Side → Order → Meeting → Order → Meeting
meet side taker m resting =
    let quantity = quantity_met side taker.price m.left resting in
    let rest = resting.quantity - quantity in
    record {
      left = m.left - quantity;
      trades = m.trades ++ unless_zero quantity (trade_of side taker resting quantity);
      kept = m.kept ++ unless_zero rest (with_quantity resting rest);
    }

-- an order of this side meets those that rest, best first
abbrev pub met : Side → Order → List Order → Meeting
met side taker resting = fold (meet side taker) (record { left = taker.quantity; trades = []; kept = [] }) resting

-- the order in its place: behind all whose price is as good
abbrev pub insert_order : Side → Order → List Order → List Order
insert_order side o [] = o ∷ []
insert_order side o (p ∷ rest) = cond (is_better side o.price p.price) (o ∷ p ∷ rest) (p ∷ insert_order side o rest)
