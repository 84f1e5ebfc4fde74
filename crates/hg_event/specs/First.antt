-- Reading the event that some bytes begin with, whatever stands behind it.
use Rattle.std.specs.Prelude.{◌≡◌, ℕ, ◌+◌, ◌-◌, ◌*◌, Bool, true, false, List, length, Result, Ok, Err}
use Rattle.std.specs.Int.{w16, w64}
use Rattle.hg_model.specs.declared.row.Row.{Row}
use Rattle.hg_model.specs.Links.{most_parents}
use Rattle.hg_life.specs.declared.answers.ByteFault.{ByteFault}
use Rattle.hg_life.specs.declared.answers.ByteFault.TheVariants.{Short, BadMagic, BadKind, BadLength, Trailing}
use Rattle.hg_life.specs.Spelling.{payload_limit}
use Rattle.hg_life.specs.Verdict.{signed_row}
use Rattle.hg_life.specs.Results.{◌>>=◌}
use Rattle.hg_life.specs.Reading.{Field, form_field, bytes_field, number_field, parents_field, payload_field}

-- the row that the first bytes spell and the bytes behind them, or the first fault
unfoldable pub read_first : List ℕ → Field Row
read_first bytes = let size = length bytes in do
  form ← form_field size bytes
  creator ← number_field size w16 form.1
  parents ← parents_field size form.0 creator.1
  time ← number_field size w64 parents.1
  payload ← payload_field size time.1
  sig ← bytes_field size 64 payload.1
  Ok (signed_row creator.0 parents.0 time.0 payload.0 sig.0, sig.1)

-- the row and how many bytes spell it, of so many bytes
abbrev pub counted : ℕ → Field Row → Result (Row × ℕ) ByteFault
counted size (Ok first) = Ok (first.0, size - length first.1)
counted size (Err fault) = Err fault

-- the row at the front, and how many bytes spell it, or the first fault
abbrev pub first_event : List ℕ → Result (Row × ℕ) ByteFault
first_event bytes = counted (length bytes) (read_first bytes)

-- this fault is that the bytes end too early
abbrev pub is_early : ByteFault → Bool
is_early (Short n) = true
is_early BadMagic = false
is_early (BadKind k) = false
is_early (BadLength n) = false
is_early (Trailing n) = false

-- what was read is that the bytes end too early
abbrev pub is_short : {A : Type 0} → Result A ByteFault → Bool
is_short (Ok x) = false
is_short (Err fault) = is_early fault

-- this outcome is also the later one, but where the bytes ended too early for it
abbrev pub Stands : {A : Type 0} → Result A ByteFault → Result A ByteFault → Type 0
Stands read later = is_short read ≡ false → later ≡ read

-- how many bytes the event has that has no parents and no payload: 4 of its form, 2 of the creator, the kind, 8 of the
-- time, 2 of the payload's length, and 64 of the signature
abbrev pub least_size : ℕ
least_size = 81

-- how many more the names of a self-parent and of four other-parents are, of 48 bytes each
abbrev pub names_size : ℕ
names_size = 48 * most_parents

-- how many bytes the longest event has: 1,345
abbrev pub greatest_size : ℕ
greatest_size = least_size + names_size + payload_limit
