-- Laws of payloads and balances
use Rattle.std.specs.Prelude.{ℕ, ◌≡◌, ◌<◌, ◌≤◌, ◌^◌, List, ◌++◌, length, get_or, All, Some}
use Rattle.std.specs.List.{sum}
use Rattle.hg_model.specs.declared.row.Row.{Row}
use Rattle.hg_model.specs.declared.row.Placed.{Placed}
use Rattle.hg_life.specs.declared.pay.Transfer.{Transfer}
use Rattle.hg_life.specs.Pay.{transfer_limit, pay_bytes, read_pay, book_of}
use Rattle.hg_pay.specs.Account.{with_rest}

-- the book of any order has as much as was there at the start
abbrev pub SumIsKept : Type 0
SumIsKept = (balances : List ℕ) (G : List Row) (order : List Placed) → sum (book_of balances G order).balances ≡ sum balances

-- and an effect of each of its events
abbrev pub EffectsAreMany : Type 0
EffectsAreMany = (balances : List ℕ) (G : List Row) (order : List Placed) → length (book_of balances G order).effects ≡ length order

-- the book of an order that has gone on is that of its first events, with the rest
abbrev pub BooksGoOn : Type 0
BooksGoOn = (balances : List ℕ) (G : List Row) (order rest : List Placed) → with_rest G (book_of balances G order) (order ++ rest) ≡ book_of balances G (order ++ rest)

-- rows that come leave the book of an order of rows that were there
abbrev pub RowsLeaveTheBook : Type 0
RowsLeaveTheBook = (balances : List ℕ) (G more : List Row) (order : List Placed) → All (λ (p : Placed). p.place < length G) order → book_of balances (G ++ more) order ≡ book_of balances G order

-- a transfer whose numbers fit their bytes
pub record IsTransfer (t : Transfer) : Type 0 where
  pub receiver : t.receiver < 2 ^ 16
  pub amount : t.amount < 2 ^ 64

-- transfers that a payload can hold
pub record ArePayable (ts : List Transfer) : Type 0 where
  pub few : length ts ≤ transfer_limit
  pub each : All IsTransfer ts

-- they are read from their payload
abbrev pub PaysAreRead : Type 0
PaysAreRead = (ts : List Transfer) → ArePayable ts → read_pay (pay_bytes ts) ≡ Some ts

abbrev pub AreBytes : List ℕ → Type 0
AreBytes bytes = (i : ℕ) → get_or bytes i 0 < 256

-- what is read from bytes has no other payload
abbrev pub PaysAreOne : Type 0
PaysAreOne = (bytes : List ℕ) (ts : List Transfer) → AreBytes bytes → read_pay bytes ≡ Some ts → ArePayable ts × (bytes ≡ pay_bytes ts)
