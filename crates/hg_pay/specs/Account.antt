-- What a ledger holds of an order that grows
use Rattle.std.specs.Prelude.{ℕ, List, length, drop, fold}
use Rattle.hg_model.specs.declared.row.Row.{Row}
use Rattle.hg_model.specs.declared.row.Placed.{Placed}
use Rattle.hg_life.specs.Pay.{Book, with_placed}

-- what the members held at the start, the book so far, and for how many effects in all there is memory
pub record Account : Type 0 where
  pub opening : List ℕ
  pub book : Book
  pub room : ℕ

-- with the events of the order behind those that the book has
abbrev pub with_rest : List Row → Book → List Placed → Book
with_rest G book order = fold (with_placed G) book (drop (length book.effects) order)
