-- Reading the bytes of an event from left to right: the row that they spell, or the first fault that is met.
-- Each field is read from the front of the bytes that are left; `size` is the length of all of them.
use Rattle.std.specs.Prelude.{ℕ, zero, suc, Bool, true, false, cond, ◌&&◌, nat_eq, nat_lt, nat_le, ◌==◌, List, [], ◌∷◌, length, take, drop, Some, None, Result, Ok, Err, if◌then◌else◌}
use Rattle.std.specs.List.{starts_with}
use Rattle.std.specs.Int.{Width, w16, w64, byte_len, from_be_bytes}
use Rattle.sha2.specs.Sha512.{sha384}
use Rattle.hg_model.specs.declared.row.Row.{Row}
use Rattle.hg_life.specs.declared.answers.ByteFault.{ByteFault}
use Rattle.hg_life.specs.declared.answers.ByteFault.TheVariants.{Short, BadMagic, BadKind, BadLength, Trailing}
use Rattle.hg_model.specs.Links.{ParentNames, most_others}
use Rattle.hg_life.specs.Spelling.{magic, form_byte, payload_limit}
use Rattle.hg_life.specs.Results.{◌>>=◌}

-- a field's value and the bytes that are left, or the fault
abbrev pub Field : Type 0 → Type 0
Field A = Result (A × List ℕ) ByteFault

-- so many bytes
unfoldable pub bytes_field : ℕ → ℕ → List ℕ → Field (List ℕ)
bytes_field size n bytes = if nat_lt (length bytes) n then Err (Short size) else Ok (take n bytes, drop n bytes)

-- a number of this width, big-endian
unfoldable pub number_field : ℕ → Width → List ℕ → Field ℕ
number_field size width bytes = do
  digits ← bytes_field size (byte_len width) bytes
  Ok (from_be_bytes width digits.0, digits.1)

-- by the byte behind the magic whether the event has several other-parents
unfoldable pub form_of : ℕ → List ℕ → Field Bool
form_of size [] = Err (Short size)
form_of size (digit ∷ rest) =
    if digit == form_byte false then Ok (false, rest) else if digit == form_byte true then Ok (true, rest) else Err BadMagic

-- the same from the magic on
unfoldable pub form_field : ℕ → List ℕ → Field Bool
form_field size bytes =
    if starts_with nat_eq bytes magic then form_of size (drop (length magic) bytes)
    else if starts_with nat_eq magic bytes then Err (Short size) else Err BadMagic

-- an event of the form may have so many other-parents
abbrev pub is_kind : Bool → ℕ → Bool
is_kind several kind = cond several (nat_lt 1 kind && nat_le kind most_others) (nat_le kind 1)

-- so many names
unfoldable pub names_field : ℕ → ℕ → List ℕ → Field (List (List ℕ))
names_field size zero bytes = Ok ([], bytes)
names_field size (suc k) bytes = do
  name ← bytes_field size 48 bytes
  names ← names_field size k name.1
  Ok (name.0 ∷ names.0, names.1)

-- the names of the parents, of so many other-parents
unfoldable pub parents_by : ℕ → ℕ → List ℕ → Field ParentNames
parents_by size zero bytes = Ok (None, bytes)
parents_by size (suc k) bytes = do
  self_parent ← bytes_field size 48 bytes
  others ← names_field size (suc k) self_parent.1
  Ok (Some (self_parent.0, others.0), others.1)

-- the kind, and the parents' names that it says
unfoldable pub parents_field : ℕ → Bool → List ℕ → Field ParentNames
parents_field size several [] = Err (Short size)
parents_field size several (kind ∷ rest) = if is_kind several kind then parents_by size kind rest else Err (BadKind kind)

-- a length, and so many bytes
unfoldable pub payload_field : ℕ → List ℕ → Field (List ℕ)
payload_field size bytes = do
  len ← number_field size w16 bytes
  if nat_lt payload_limit len.0 then Err (BadLength len.0) else bytes_field size len.0 len.1

-- the row that the bytes spell, or their first fault
unfoldable pub read_event : List ℕ → Result Row ByteFault
read_event bytes = let size = length bytes in do
  form ← form_field size bytes
  creator ← number_field size w16 form.1
  parents ← parents_field size form.0 creator.1
  time ← number_field size w64 parents.1
  payload ← payload_field size time.1
  sig ← bytes_field size 64 payload.1
  if length sig.1 == 0
      then Ok (record {
        creator = creator.0;
        parents = parents.0;
        time = time.0;
        payload = payload.0;
        sig = sig.0;
        name = sha384 bytes;
      })
      else Err (Trailing (length sig.1))
