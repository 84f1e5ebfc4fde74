-- A command as a value: files that are read in turn, and at the end a text, the work on a node, or a status to stop with
use Rattle.std.specs.Prelude.{ℕ, List, Option, Result, Ok, Err}
use Rattle.hg_life.specs.Members.{MemberList}
use Rattle.hg_top.specs.declared.status.File.{File}
use Rattle.hg_top.specs.declared.status.File.TheVariants as file
use Rattle.hg_top.specs.declared.status.Refusal.TheVariants.{TooLong}
use Rattle.hg_top.specs.declared.status.Status.{Status}
use Rattle.hg_top.specs.declared.status.Status.TheVariants.{Members, Script, Events, Proof, Wire}

-- the greatest number of bytes of each file
abbrev pub limit_of : File → ℕ
limit_of file.Members = 1048576
limit_of file.Script = 16777216
limit_of file.Events = 16777216
limit_of file.Proof = 2147483648
limit_of file.Message = 1410334778

-- the status of a file that has more
abbrev pub too_long : File → Status
too_long file.Members = Members TooLong
too_long file.Script = Script TooLong
too_long file.Events = Events TooLong
too_long file.Proof = Proof TooLong
too_long file.Message = Wire TooLong

-- the work on a node that is kept in a journal: the journal's file, whose node it is among these members, the events that
-- are put to it, and the time of the event that it makes, if it makes one
pub record KeepWork : Type 0 where
  pub journal : List ℕ
  pub members : MemberList
  pub own : ℕ
  pub events : List (List ℕ)
  pub time : Option ℕ

-- `Writes`: some text with this property goes to standard output. `Stops`: nothing more is done, and the call has this
-- status. `Reads`: the file of this kind and name is read and, where it is not too long, its bytes decide what comes next.
-- `Keeps`: this work is done on a node, and a text of it goes to standard output.
pub data Work : Type 1 where
  Writes : (List ℕ → Type 0) → Work
  Stops : Status → Work
  Reads : File → List ℕ → (List ℕ → Work) → Work
  Keeps : KeepWork → Work

-- next with what bytes were taken for, or their fault has its status
abbrev pub unless_faulty : {A F : Type 0} → (F → Status) → Result A F → (A → Work) → Work
unless_faulty stop (Ok x) next = next x
unless_faulty stop (Err fault) next = Stops (stop fault)

-- the file is read, and what its bytes are taken for tells what is done next
abbrev pub takes : {A F : Type 0} → File → (F → Status) → (List ℕ → Result A F) → List ℕ → (A → Work) → Work
takes file stop read name next = Reads file name (λ bytes. unless_faulty stop (read bytes) next)

-- a work that comes to nothing of its own: it stands for whatever is done next
abbrev pub nothing_more : Work
nothing_more = Writes (λ text. ⊥)
