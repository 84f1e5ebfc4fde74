-- The payload word at the end of a line: `hex:` and the bytes in digits, or `pay:` and transfers
use Rattle.std.specs.Prelude.{ℕ, ◌^◌, Bool, ◌&&◌, ◌==◌, nat_le, if◌then◌else◌, List, [], ◌∷◌, length, take, drop, count_by, codes, Option, Some, None, Result, Ok, Err}
use Rattle.std.specs.List.{after_first, before_first, list_all}
use Rattle.std.specs.Option.{ok_or}
use Rattle.std.specs.Str.{bytes_eq}
use Rattle.hg_life.specs.declared.pay.Transfer.{Transfer}
use Rattle.hg_life.specs.Members.{MemberList}
use Rattle.hg_life.specs.Pay.{pay_bytes, transfer_limit}
use Rattle.hg_life.specs.Results.{◌>>=◌}
use Rattle.hg_script.specs.declared.fault.Why.{Why}
use Rattle.hg_script.specs.declared.fault.Why.TheVariants.{Payload}
use Rattle.hg_script.specs.Argument.{below, digits_form, member_of, number_of, parts_of}
use Rattle.hg_script.specs.Words.{read_each}

abbrev pub is_equals : ℕ → Bool
is_equals b = b == 61

-- an item has one `=`
abbrev pub is_item : List ℕ → Bool
is_item part = count_by is_equals part == 1

-- 1 to 64 items
abbrev pub are_items : List ℕ → Bool
are_items text = nat_le (length (parts_of text)) transfer_limit && list_all is_item (parts_of text)

-- any number below 65,536
abbrev pub id_of : List ℕ → Result ℕ Why
id_of word = number_of word >>= (λ id. below (2 ^ 16) (Some id))

-- the receiver before the `=`: a member's name, or `#` and any number below 65,536
abbrev pub receiver_of : MemberList → List ℕ → Result ℕ Why
receiver_of members [] = member_of members []
receiver_of members (b ∷ rest) = if b == 35 then id_of rest else member_of members (b ∷ rest)

-- the transfer of an item, whose receiver is looked at before its amount
unfoldable pub transfer_of : MemberList → List ℕ → Result Transfer Why
transfer_of members part = do
  receiver ← receiver_of members (before_first is_equals part)
  amount ← number_of (after_first is_equals part)
  Ok (record { receiver = receiver; amount = amount })

-- the transfers of items, one after the other
abbrev pub transfers_of : MemberList → List (List ℕ) → Result (List Transfer) Why
transfers_of members parts = read_each (transfer_of members) parts

-- and their payload
abbrev pub pay_in : MemberList → List (List ℕ) → Result (List ℕ) Why
pay_in members parts = transfers_of members parts >>= (λ ts. Ok (pay_bytes ts))

-- the payload of the transfers behind `pay:`
abbrev pub pay_of : MemberList → List ℕ → Result (List ℕ) Why
pay_of members text = if are_items text then pay_in members (parts_of text) else Err Payload

-- the bytes of at most 2,048 hexadecimal digits, of which there may be none
abbrev pub hex_of : List ℕ → Result (List ℕ) Why
hex_of digits = ok_or (digits_form 0 2048 digits) Payload

-- the payload that the word tells
abbrev pub payload_word : MemberList → List ℕ → Result (List ℕ) Why
payload_word members word =
    if bytes_eq (take 4 word) (codes "hex:") then hex_of (drop 4 word)
    else if bytes_eq (take 4 word) (codes "pay:") then pay_of members (drop 4 word)
    else Err Payload

-- without the word it is empty
abbrev pub payload_of : MemberList → Option (List ℕ) → Result (List ℕ) Why
payload_of members None = Ok []
payload_of members (Some word) = payload_word members word
