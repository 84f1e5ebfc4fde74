-- What the bytes of a file stand for, where `next` says which state a record leads to, if it leads to one. A file begins with a
-- gate and eight bytes of a head; records follow, each behind a gate of its own, up to a gate that is closed. A closed gate
-- is the byte 0; the first gate is open as 1, that of a record as any other byte than 0.
use Rattle.std.specs.Prelude.{ℕ, zero, suc, ◌+◌, nat_eq, nat_le, ◌&&◌, ◌||◌, not, if◌then◌else◌, Bool, List, [], ◌∷◌, ◌++◌, length, take, drop, slice_index, Option, Some, None}
use Rattle.std.specs.Str.{bytes_eq}
use Rattle.hg_journal.specs.Records.{Cut, record_of}

pub data Reading (S : Type 0) : Type 0 where
  -- no journal was made of it yet: it is to be made anew
  Anew : Reading S
  Foreign : Reading S
  -- the first place where a gate must stand and none does, or where an open gate's record is none or leads nowhere
  Broken : ℕ → Reading S
  Holds : S → Reading S

-- which state a record of this kind and body leads to
abbrev pub Next : Type 0 → Type 0
Next S = S → ℕ → List ℕ → Option S

abbrev pub behind_record : {S : Type 0} → (S → ℕ → List ℕ → Reading S) → ℕ → Cut → Option S → Reading S
behind_record go at cut None = Broken at
behind_record go at cut (Some t) = go t (at + 4 + length cut.body) cut.rest

abbrev pub behind_gate : {S : Type 0} → Next S → (S → ℕ → List ℕ → Reading S) → S → ℕ → Option Cut → Reading S
behind_gate next go s at None = Broken at
behind_gate next go s at (Some cut) = behind_record go at cut (next s cut.kind cut.body)

-- these bytes from this place on, in a state; the number is more than there are bytes
abbrev pub scan_for : {S : Type 0} → Next S → ℕ → S → ℕ → List ℕ → Reading S
scan_for next zero s at bytes = Broken at
scan_for next (suc n) s at [] = Broken at
scan_for next (suc n) s at (gate ∷ rest) =
    if nat_eq gate 0 then Holds s else behind_gate next (scan_for next n) s at (record_of rest)

unfoldable pub scan : {S : Type 0} → Next S → S → ℕ → List ℕ → Reading S
scan next s at bytes = scan_for next (suc (length bytes)) s at bytes

-- at most one byte; or a closed gate and at most ten bytes; or a head and a closed gate behind some byte that is no open gate
unfoldable pub is_anew : List ℕ → List ℕ → Bool
is_anew head file =
    nat_le (length file) 1
    || (nat_eq (slice_index file 0) 0 && nat_le (length file) 10)
    || (not (nat_eq (slice_index file 0) 1) && bytes_eq (drop 1 file) (head ++ 0 ∷ []))

-- what a file with this head stands for, from a first state on
unfoldable pub reading : {S : Type 0} → Next S → S → List ℕ → List ℕ → Reading S
reading next first head file =
    if is_anew head file then Anew
    else (if bytes_eq (take 9 file) (1 ∷ head) then scan next first 9 (drop 9 file) else Foreign)

-- the state that its records lead to, where it is neither foreign nor broken
abbrev pub state_in : {S : Type 0} → S → Reading S → Option S
state_in first Anew = Some first
state_in first Foreign = None
state_in first (Broken at) = None
state_in first (Holds s) = Some s
