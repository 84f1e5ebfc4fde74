-- A seat that was lent: what the calls through it leave as it was
use Rattle.std.specs.Prelude.{ℕ}
use Rattle.hg_board.specs.Seats.{SharedNode}

-- the shared node, the reference to the seat by its ghost name, and the seat's parts
pub record SeatLoan (V : Type 0) : Type 0 where
  pub shared : SharedNode V
  pub name : ℕ
  pub parts : ℕ

abbrev pub seat_loan : {V : Type 0} → SharedNode V → ℕ → ℕ → SeatLoan V
seat_loan shared name parts = record { shared = shared; name = name; parts = parts }
