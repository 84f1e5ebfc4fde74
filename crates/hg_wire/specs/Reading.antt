-- The messages of gossip, read from the front of a stream, one field after the other
use Rattle.std.specs.Prelude.{ℕ, zero, suc, ◌+◌, nat_eq, nat_lt, List, [], ◌∷◌, length, take, drop, Option, Some, None, Result, Ok, Err, if◌then◌else◌}
use Rattle.std.specs.Int.{w32, from_be_bytes}
use Rattle.hg_model.specs.declared.row.Row.{Row}
use Rattle.hg_life.specs.declared.answers.ByteFault.{ByteFault}
use Rattle.hg_life.specs.declared.gossip.Parcel.{Parcel}
use Rattle.hg_event.specs.First.{first_event, is_early}
use Rattle.hg_wire.specs.declared.message.Want.{Want}
use Rattle.hg_wire.specs.declared.message.Want.TheVariants as want
use Rattle.hg_wire.specs.declared.message.Message.{Message}
use Rattle.hg_wire.specs.declared.message.Message.TheVariants.{Have, Rows}
use Rattle.hg_wire.specs.declared.message.WireFault.TheVariants.{Magic, Kind, Count, Row as FaultyRow, Flag}
use Rattle.hg_wire.specs.Outcome.{Outcome, Unfinished, Faulty, Finished, Reader, ◌>>=◌}

-- so many bytes
unfoldable pub cut : ℕ → Reader (List ℕ)
cut n bytes = if nat_lt (length bytes) n then Unfinished else Finished (take n bytes) (drop n bytes)

-- this byte, which stands at this place of the magic
unfoldable pub magic_byte : ℕ → ℕ → Reader ℕ
magic_byte at byte [] = Unfinished
magic_byte at byte (b ∷ rest) = if nat_eq b byte then Finished b rest else Faulty (Magic at)

-- the four bytes of `HGW1`
unfoldable pub magic_field : Reader ℕ
magic_field bytes =
    magic_byte 0 0x48 bytes >>= (λ _ rest. magic_byte 1 0x47 rest >>= (λ _ rest. magic_byte 2 0x57 rest >>= (λ _ rest. magic_byte 3 0x31 rest)))

-- the byte of the kind
abbrev pub kind_byte : Want → ℕ
kind_byte want.Have = 1
kind_byte want.Rows = 2

unfoldable pub kind_field : Want → Reader ℕ
kind_field w [] = Unfinished
kind_field w (b ∷ rest) = if nat_eq b (kind_byte w) then Finished b rest else Faulty (Kind b)

-- the greatest number of names or rows of a message
abbrev pub count_limit : ℕ
count_limit = 1048576

-- a number of names or rows, which is not too great
abbrev pub limited : ℕ → Reader ℕ
limited n rest = if nat_lt count_limit n then Faulty (Count n) else Finished n rest

unfoldable pub count_field : Reader ℕ
count_field bytes = cut 4 bytes >>= (λ digits rest. limited (from_be_bytes w32 digits) rest)

-- magic, kind, and how many names or rows follow
unfoldable pub head_field : Want → Reader ℕ
head_field w bytes = magic_field bytes >>= (λ _ rest. kind_field w rest >>= (λ _ rest. count_field rest))

-- a name, wherever it stands
unfoldable pub name_field : ℕ → Reader (List ℕ)
name_field i bytes = cut 48 bytes

-- the bytes of the row at this place, by what reading an event at their front gives
abbrev pub row_seen : ℕ → List ℕ → Result (Row × ℕ) ByteFault → Outcome (List ℕ)
row_seen i bytes (Ok first) = Finished (take first.1 bytes) (drop first.1 bytes)
row_seen i bytes (Err fault) = if is_early fault then Unfinished else Faulty (FaultyRow i fault)

unfoldable pub row_field : ℕ → Reader (List ℕ)
row_field i bytes = row_seen i bytes (first_event bytes)

-- so many of them, the first at this place
unfoldable pub many : (ℕ → Reader (List ℕ)) → ℕ → ℕ → Reader (List (List ℕ))
many one i zero bytes = Finished [] bytes
many one i (suc n) bytes = one i bytes >>= (λ x rest. many one (i + 1) n rest >>= (λ xs rest. Finished (x ∷ xs) rest))

-- a flag, and the name of the last own row where it is 1
unfoldable pub last_field : Reader (Option (List ℕ))
last_field [] = Unfinished
last_field (zero ∷ rest) = Finished None rest
last_field (suc zero ∷ rest) = cut 48 rest >>= (λ name rest. Finished (Some name) rest)
last_field (suc (suc b) ∷ rest) = Faulty (Flag (suc (suc b)))

abbrev pub parcel_of : List (List ℕ) → Option (List ℕ) → Parcel
parcel_of rows last = record { rows = rows; last = last }

-- what follows the head
unfoldable pub body : Want → ℕ → Reader Message
body want.Have n bytes = many name_field 0 n bytes >>= (λ names rest. Finished (Have names) rest)
body want.Rows n bytes = many row_field 0 n bytes >>= (λ rows rest. last_field rest >>= (λ last rest. Finished (Rows (parcel_of rows last)) rest))

-- the first message of the stream
unfoldable pub read : Want → Reader Message
read w bytes = head_field w bytes >>= body w
