-- The one spelling of an event in bytes, what of it is signed, and its name. All numbers are big-endian.
-- Names are SHA-384 (FIPS 180-4) of the whole spelling, so that one name has one signature, and one coin.
use Rattle.std.specs.Prelude.{ℕ, ◌≡◌, ◌<◌, ◌≤◌, ◌^◌, Bool, true, cond, nat_lt, List, [], ◌∷◌, ◌++◌, length, Some, None, IfSome, codes}
use Rattle.std.specs.List.{AllByRecursion, concat}
use Rattle.std.specs.Int.{w16, w64, to_be_bytes}
use Rattle.sha2.specs.Sha512.{sha384}
use Rattle.hg_model.specs.declared.row.Row.{Row}
use Rattle.hg_model.specs.Links.{ParentNames, has_few_others}

-- the first bytes of every event
abbrev pub magic : List ℕ
magic = codes "HGE"

-- the byte behind them: the digit 1, or 2 where there are several other-parents
abbrev pub form_byte : Bool → ℕ
form_byte several = cond several 0x32 0x31

-- how many other-parents there are, and whether several
abbrev pub others_of : ParentNames → ℕ
others_of None = 0
others_of (Some names) = length names.1

abbrev pub has_several : ParentNames → Bool
has_several parents = nat_lt 1 (others_of parents)

-- the magic of the event's form
abbrev pub form_bytes : ParentNames → List ℕ
form_bytes parents = magic ++ form_byte (has_several parents) ∷ []

-- the kind of the event, which is the number of its other-parents, and the names of its parents, if it has any
abbrev pub parent_bytes : ParentNames → List ℕ
parent_bytes None = 0 ∷ []
parent_bytes (Some names) = length names.1 ∷ (names.0 ++ concat names.1)

-- two bytes of length, and so many bytes
abbrev pub payload_bytes : List ℕ → List ℕ
payload_bytes payload = to_be_bytes w16 (length payload) ++ payload

-- the fields in their order, without the signature
abbrev pub body_bytes : ℕ → ParentNames → ℕ → List ℕ → List ℕ
body_bytes creator parents time payload =
    form_bytes parents ++ (to_be_bytes w16 creator ++ (parent_bytes parents ++ (to_be_bytes w64 time ++ payload_bytes payload)))

-- what is signed
unfoldable pub body_of : Row → List ℕ
body_of row = body_bytes row.creator row.parents row.time row.payload

-- all fields, one after the other
unfoldable pub spelling : Row → List ℕ
spelling row = body_of row ++ row.sig

-- the greatest number of bytes of a payload
abbrev pub payload_limit : ℕ
payload_limit = 1024

-- the name of a self-parent and those of one to four other-parents, of 48 bytes each
pub record AreNames (names : List ℕ × List (List ℕ)) : Type 0 where
  pub few : has_few_others (Some names) ≡ true
  pub first : length names.0 ≡ 48
  pub others : AllByRecursion (λ name. length name ≡ 48) names.1

-- a row whose fields have their sizes
pub record HasSpelling (row : Row) : Type 0 where
  pub creator : row.creator < 2 ^ 16
  pub parents : IfSome row.parents AreNames
  pub time : row.time < 2 ^ 64
  pub payload : length row.payload ≤ payload_limit
  pub sig : length row.sig ≡ 64

-- the bytes spell the row
pub record Spells (bytes : List ℕ) (row : Row) : Type 0 where
  pub sized : HasSpelling row
  pub spelled : bytes ≡ spelling row
  pub named : row.name ≡ sha384 bytes
