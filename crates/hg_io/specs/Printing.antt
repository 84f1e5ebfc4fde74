-- Texts that are told to a sink, straight or by a page that keeps their end back.
use Rattle.std.specs.Prelude.{◌≡◌, ℕ, ◌+◌, ◌<◌, ◌≤◌, nat_le, if◌then◌else◌, List, [], ◌++◌, length, Option, Result, Ok, Err}
use Rattle.hg_io.specs.Bytes.{Appends, AppendsPart}
use Rattle.hg_io.specs.Faults.{Rose}
use Rattle.hg_io.specs.declared.sink.Sink as sink

-- what came of printing a text to a sink K: it was written whole, or a front of it and not all, with a fault that was
-- counted. No count falls.
abbrev pub Prints : {S T E : Type 0} → sink.Ghosts S → S → S → List ℕ → Result T E → Type 0
Prints K before after text (Ok x) = Appends (K.written before) (K.written after) text × (K.faults before ≤ K.faults after)
Prints K before after text (Err e) =
    AppendsPart (K.written before) (K.written after) text × Rose (K.faults before) (K.faults after) × (K.faults before ≤ K.faults after)

-- a sink and the page before it: what was written, how often it failed, and what the page holds
pub record Desk : Type 0 where
  pub written : Option (List ℕ)
  pub faults : ℕ
  pub held : List ℕ

abbrev pub desk : {S : Type 0} → sink.Ghosts S → S → List ℕ → Desk
desk K now held = record { written = K.written now; faults = K.faults now; held = held }

-- a text went behind what was held: some first bytes of them are written now, and the page holds the others
pub record IsPut (before after : Desk) (text : List ℕ) : Type 0 where
  pub sent : List ℕ
  pub split : before.held ++ text ≡ sent ++ after.held
  pub written : Appends before.written after.written sent
  pub faults : before.faults ≤ after.faults

-- a fault came before all of what was held and of the text was written: some first bytes of them are, and not these,
-- which the page does not hold either
pub record IsStopped (before after : Desk) (text : List ℕ) : Type 0 where
  pub sent : List ℕ
  pub unsent : List ℕ
  pub some : 0 < length unsent
  pub split : before.held ++ text ≡ sent ++ unsent
  pub written : Appends before.written after.written sent
  pub rose : Rose before.faults after.faults
  pub faults : before.faults ≤ after.faults
  pub empty : after.held ≡ []

-- what came of putting a text
abbrev pub Puts : {T E : Type 0} → Desk → Desk → List ℕ → Result T E → Type 0
Puts before after text (Ok x) = IsPut before after text
Puts before after text (Err e) = IsStopped before after text

-- the same of a sink K and the page before it, which holds these bytes before and these after
abbrev pub PutsOn : {S T E : Type 0} → sink.Ghosts S → S → S → List ℕ → List ℕ → List ℕ → Result T E → Type 0
PutsOn K before after held_before held_after text r = Puts (desk K before held_before) (desk K after held_after) text r

-- a front of a text was put, and this is left of it
pub record IsPutUpTo (before now : Desk) (left text : List ℕ) : Type 0 where
  pub done : List ℕ
  pub put : IsPut before now done
  pub whole : done ++ left ≡ text

-- how many bytes a page holds
abbrev pub page_size : ℕ
page_size = 4096

-- what an empty page holds after a text: all of it, or nothing where it is longer than a page
abbrev pub held_alone : List ℕ → List ℕ
held_alone text = if nat_le (length text) page_size then text else []

-- what a page holds after a text: both where there is room for them, or else the text as on an empty page
abbrev pub held_after : List ℕ → List ℕ → List ℕ
held_after held text = if nat_le (length held + length text) page_size then held ++ text else held_alone text
