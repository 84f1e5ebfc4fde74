-- The messages of gossip, as bytes
use Rattle.std.specs.Prelude.{◌≡◌, ℕ, ◌<◌, ◌≤◌, Bool, true, false, List, [], ◌∷◌, ◌++◌, length, get_or, Option, Some, None, IfSome, codes}
use Rattle.std.specs.List.{concat, AllByRecursion}
use Rattle.std.specs.Int.{w32, to_be_bytes}
use Rattle.hg_model.specs.declared.row.Row.{Row}
use Rattle.hg_life.specs.declared.gossip.Parcel.{Parcel}
use Rattle.hg_life.specs.Spelling.{Spells}
use Rattle.hg_wire.specs.declared.message.Want.{Want}
use Rattle.hg_wire.specs.declared.message.Want.TheVariants as want
use Rattle.hg_wire.specs.declared.message.Message.{Message}
use Rattle.hg_wire.specs.declared.message.Message.TheVariants.{Have, Rows}
use Rattle.hg_wire.specs.Reading.{count_limit, kind_byte}

-- the first bytes of every message
abbrev pub magic : List ℕ
magic = codes "HGW1"

-- the magic, the kind, and how many names or rows follow
abbrev pub head_bytes : Want → ℕ → List ℕ
head_bytes w n = magic ++ kind_byte w ∷ to_be_bytes w32 n

-- a flag, and the name of the last own row behind 1
abbrev pub last_bytes : Option (List ℕ) → List ℕ
last_bytes None = 0 ∷ []
last_bytes (Some name) = 1 ∷ name

-- the rows, and the last own row's name
abbrev pub parcel_bytes : Parcel → List ℕ
parcel_bytes parcel = concat parcel.rows ++ last_bytes parcel.last

abbrev pub message_bytes : Message → List ℕ
message_bytes (Have names) = head_bytes want.Have (length names) ++ concat names
message_bytes (Rows parcel) = head_bytes want.Rows (length parcel.rows) ++ parcel_bytes parcel

-- it is ROWS
abbrev pub is_rows : Message → Bool
is_rows (Have names) = false
is_rows (Rows parcel) = true

-- how many names or rows it has
abbrev pub item_count : Message → ℕ
item_count (Have names) = length names
item_count (Rows parcel) = length parcel.rows

abbrev pub IsName : List ℕ → Type 0
IsName name = length name ≡ 48

-- the bytes spell an event
abbrev pub IsEvent : List ℕ → Type 0
IsEvent bytes = (row : Row) × Spells bytes row

-- so many rows as may stand in a message, each an event, and a name
abbrev pub IsParcel : Parcel → Type 0
IsParcel parcel = (length parcel.rows ≤ count_limit) × AllByRecursion IsEvent parcel.rows × IfSome parcel.last IsName

-- the message is of the kind that is wanted, and its parts are as they have to be
abbrev pub Fits : Want → Message → Type 0
Fits want.Have (Have names) = (length names ≤ count_limit) × AllByRecursion IsName names
Fits want.Rows (Rows parcel) = IsParcel parcel
Fits want.Have (Rows parcel) = ⊥
Fits want.Rows (Have names) = ⊥

-- the bytes are the message
abbrev pub IsMessage : Want → List ℕ → Message → Type 0
IsMessage w bytes m = Fits w m × (bytes ≡ message_bytes m)

abbrev pub AreBytes : List ℕ → Type 0
AreBytes bytes = (i : ℕ) → get_or bytes i 0 < 256

-- some first ones of the bytes are the message, and these stand behind it
pub record Begins (w : Want) (bytes : List ℕ) (m : Message) (rest : List ℕ) : Type 0 where
  pub text : List ℕ
  pub is : IsMessage w text m
  pub whole : bytes ≡ text ++ rest
