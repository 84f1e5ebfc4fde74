-- Payloads of transfers, the balances that they leave, and what came of them. The payer is the event's creator
use Rattle.std.specs.Prelude.{ℕ, zero, suc, ◌+◌, ◌-◌, ◌*◌, Bool, cond, ◌&&◌, ◌==◌, nat_lt, nat_le, List, [], ◌∷◌, ◌++◌, length, take, drop, fold, get_or, count_by, slice_set, Option, Some, None}
use Rattle.std.specs.Int.{w16, w64, to_be_bytes, from_be_bytes}
use Rattle.hg_model.specs.declared.row.Row.{Row}
use Rattle.hg_model.specs.declared.row.Placed.{Placed}
use Rattle.hg_life.specs.declared.pay.Transfer.{Transfer}
use Rattle.hg_life.specs.declared.pay.Effect.{Effect}
use Rattle.hg_life.specs.declared.pay.Effect.TheVariants as effect
use Rattle.hg_model.specs.Links.{no_row}

-- the greatest number of transfers in one payload
abbrev pub transfer_limit : ℕ
transfer_limit = 64

-- a receiver in two bytes, and an amount in eight
abbrev pub transfer_bytes : Transfer → List ℕ
transfer_bytes t = to_be_bytes w16 t.receiver ++ to_be_bytes w64 t.amount

abbrev pub transfers_bytes : List Transfer → List ℕ
transfers_bytes [] = []
transfers_bytes (t ∷ ts) = transfer_bytes t ++ transfers_bytes ts

-- the payload of these transfers: how many there are, in a byte, and each of them
unfoldable pub pay_bytes : List Transfer → List ℕ
pay_bytes ts = length ts ∷ transfers_bytes ts

-- the transfer that ten bytes spell
abbrev pub transfer_in : List ℕ → Transfer
transfer_in bytes = record { receiver = from_be_bytes w16 (take 2 bytes); amount = from_be_bytes w64 (take 8 (drop 2 bytes)) }

-- so many transfers, one after the other
abbrev pub transfers_in : ℕ → List ℕ → List Transfer
transfers_in zero bytes = []
transfers_in (suc count) bytes = transfer_in bytes ∷ transfers_in count (drop 10 bytes)

-- the transfers of a payload; nothing where it is none of transfers
unfoldable pub read_pay : List ℕ → Option (List Transfer)
read_pay [] = None
read_pay (count ∷ rest) =
    cond (nat_le count transfer_limit && length rest == 10 * count) (Some (transfers_in count rest)) None

-- balances that a payer's transfers change, and whether each of them was done
pub record Paying : Type 0 where
  pub balances : List ℕ
  pub done : List Bool

-- the receiver is a member, and the payer holds the amount
abbrev pub can_pay : List ℕ → ℕ → Transfer → Bool
can_pay balances payer t = nat_lt t.receiver (length balances) && nat_le t.amount (get_or balances payer 0)

-- the amount is taken from the payer, and then given to the receiver
abbrev pub moved : List ℕ → ℕ → Transfer → List ℕ
moved balances payer t =
    let less = slice_set balances payer (get_or balances payer 0 - t.amount) in
    slice_set less t.receiver (get_or less t.receiver 0 + t.amount)

-- one transfer is done whole, or skipped
abbrev pub pay_one : ℕ → Paying → Transfer → Paying
pay_one payer p t = record {
  balances = cond (can_pay p.balances payer t) (moved p.balances payer t) p.balances;
  done = p.done ++ can_pay p.balances payer t ∷ [];
}

-- the transfers, one after the other
unfoldable pub paid : List ℕ → ℕ → List Transfer → Paying
paid balances payer ts = fold (pay_one payer) (record { balances = balances; done = [] }) ts

-- the balances, and what came of each event so far
pub record Book : Type 0 where
  pub balances : List ℕ
  pub effects : List Effect

abbrev pub with_effect : Book → Effect → Book
with_effect book e = record { balances = book.balances; effects = book.effects ++ e ∷ [] }

-- with the transfers of one event more
abbrev pub with_transfers : Book → ℕ → List Transfer → Book
with_transfers book payer ts =
    let p = paid book.balances payer ts in
    record { balances = p.balances; effects = book.effects ++ effect.Paid (count_by (λ done. done) p.done) (length ts) ∷ [] }

-- with what was read of its payload
abbrev pub with_pay : Book → ℕ → Option (List Transfer) → Book
with_pay book payer None = with_effect book effect.Unread
with_pay book payer (Some ts) = with_transfers book payer ts

-- with its payload
abbrev pub with_payload : Book → ℕ → List ℕ → Book
with_payload book payer [] = with_effect book effect.Empty
with_payload book payer (b ∷ bytes) = with_pay book payer (read_pay (b ∷ bytes))

-- with the event at a place
abbrev pub with_placed : List Row → Book → Placed → Book
with_placed G book p = let row = get_or G p.place no_row in with_payload book row.creator row.payload

abbrev pub opened : List ℕ → Book
opened balances = record { balances = balances; effects = [] }

-- the book of an order, from these balances
unfoldable pub book_of : List ℕ → List Row → List Placed → Book
book_of balances G order = fold (with_placed G) (opened balances) order
