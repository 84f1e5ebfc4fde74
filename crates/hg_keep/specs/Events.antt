-- A file of events: their spellings, end to end
use Rattle.std.specs.Prelude.{ℕ, zero, suc, ◌+◌, List, [], ◌∷◌, ◌++◌, length, take, drop, Result, Ok, Err}
use Rattle.hg_model.specs.declared.row.Row.{Row}
use Rattle.hg_life.specs.declared.answers.ByteFault.{ByteFault}
use Rattle.hg_event.specs.First.{first_event}
use Rattle.hg_keep.specs.declared.events.EventFault.{EventFault}

-- the events of a file, or where the first one begins that is none, and what is wrong with it
abbrev pub Events : Type 0
Events = Result (List (List ℕ)) EventFault

-- these events, and others behind them
abbrev pub with_front : List (List ℕ) → Events → Events
with_front front (Ok events) = Ok (front ++ events)
with_front front (Err fault) = Err fault

abbrev pub behind_first : (ℕ → List ℕ → Events) → ℕ → List ℕ → Result (Row × ℕ) ByteFault → Events
behind_first go at bytes (Err fault) = Err (record { at = at; fault = fault })
behind_first go at bytes (Ok first) = with_front (take first.1 bytes ∷ []) (go (at + first.1) (drop first.1 bytes))

-- those of the bytes that begin at this place; the number is no less than there are bytes
abbrev pub events_for : ℕ → ℕ → List ℕ → Events
events_for zero at bytes = Ok []
events_for (suc n) at [] = Ok []
events_for (suc n) at (byte ∷ rest) = behind_first (events_for n) at (byte ∷ rest) (first_event (byte ∷ rest))

unfoldable pub events_of : List ℕ → Events
events_of bytes = events_for (length bytes) 0 bytes
