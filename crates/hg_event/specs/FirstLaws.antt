-- What reading the event at the front of some bytes means, for one who may not have all of them yet.
use Rattle.std.specs.Prelude.{◌≡◌, ◌≢◌, ℕ, ◌<◌, ◌≤◌, List, ◌++◌, length, Ok, Err}
use Rattle.hg_model.specs.declared.row.Row.{Row}
use Rattle.hg_life.specs.declared.answers.ByteFault.{ByteFault}
use Rattle.hg_life.specs.declared.answers.ByteFault.TheVariants.{Short, Trailing}
use Rattle.hg_life.specs.Spelling.{Spells}
use Rattle.hg_life.specs.Reading.{read_event}
use Rattle.hg_event.specs.First.{Stands, first_event, greatest_size, least_size}

-- what is read at the front is read whatever bytes follow, and so is a fault that is not of an early end
abbrev pub FirstsStand : Type 0
FirstsStand = (bytes more : List ℕ) → Stands (first_event bytes) (first_event (bytes ++ more))

-- an event that bytes begin with is read, and nothing of what follows it
abbrev pub FirstsAreRead : Type 0
FirstsAreRead = (bytes rest : List ℕ) (row : Row) → Spells bytes row → first_event (bytes ++ rest) ≡ Ok (row, length bytes)

-- an event is no shorter and no longer than these
abbrev pub EventsAreSized : Type 0
EventsAreSized = (bytes : List ℕ) (row : Row) → Spells bytes row → (least_size ≤ length bytes) × (length bytes ≤ greatest_size)

-- bytes that end too early are all counted, and are fewer than the longest event has
abbrev pub ShortsAreShort : Type 0
ShortsAreShort = (bytes : List ℕ) (n : ℕ) → first_event bytes ≡ Err (Short n) → (n ≡ length bytes) × (length bytes < greatest_size)

-- nothing trails at the front
abbrev pub NoneTrails : Type 0
NoneTrails = (bytes : List ℕ) (n : ℕ) → first_event bytes ≢ Err (Trailing n)

-- the fault at the front is that of all the bytes, whatever stands behind it
abbrev pub FirstFaultsAreFaults : Type 0
FirstFaultsAreFaults = (bytes : List ℕ) (fault : ByteFault) → first_event bytes ≡ Err fault → read_event bytes ≡ Err fault
