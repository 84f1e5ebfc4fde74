-- The program in one call: what is told at the end, and how a call ends
use Rattle.std.specs.Prelude.{◌≡◌, ◌⊎◌, ℕ, List, Option, Some, None, Result, Ok, Err, is_some, codes}
use Rattle.hg_io.specs.Files.{Files}
use Rattle.hg_io.specs.declared.disk.Disk as disk
use Rattle.hg_io.specs.declared.shelf.Shelf as shelf
use Rattle.hg_io.specs.declared.sink.Sink as sink
use Rattle.hg_io.specs.declared.source.Source as source
use Rattle.hg_life.specs.Members.{MemberList}
use Rattle.hg_life.specs.NodeView.{NodeView}
use Rattle.hg_life.specs.Signing.{accepts_by}
use Rattle.hg_members.specs.MemberFile.{members_of}
use Rattle.hg_play.specs.Sites.{start_in}
use Rattle.hg_top.specs.Commands.{members_work, own_in}
use Rattle.hg_top.specs.Ends.{IsTaken, StopsIn}
use Rattle.hg_top.specs.Printing.{status_line}
use Rattle.hg_top.specs.Work.{nothing_more}
use Rattle.hg_top.specs.declared.status.File.TheVariants as file
use Rattle.hg_top.specs.declared.status.Status.{Status}
use Rattle.hg_top.specs.declared.status.Status.TheVariants.{Memory, Own, Usage}
use Rattle.hg_world.specs.World.{Secrets}
use Rattle.relay.specs.declared.gossip.Outside.{Outside}
use Rattle.relay.specs.declared.request.Request.{Request}
use Rattle.relay.specs.declared.top.Relayed.{Relayed}
use Rattle.relay.specs.Moments.{Moment}
use Rattle.relay.specs.Relaying.{IsHalted, Relays, TellsKept, outside}

-- What is told is that of a node which came of the one whose journal the file was by all exchanges that are asked for, and has
-- published all that its graph decides; the file is its journal then, and a stop leaves it so. The members' secrets are its keys.
abbrev pub MemberRelays : MemberList → ℕ → Request → Moment Secrets → Moment Secrets → Relayed → Type 0
MemberRelays members own asked a b told =
    (w : NodeView Secrets) × Relays accepts_by (start_in members own) asked a b w
    × TellsKept accepts_by members (is_some asked.proof) w told

-- the member file of this name is taken for these members, where the shelf tells it
abbrev pub AreTaken : Option Files → List ℕ → MemberList → Type 0
AreTaken holds name members = IsTaken holds file.Members members_of name members

-- so it is of the member of the name that is asked for, among the members of the file that is asked for
abbrev pub RelayTells : Option Files → Request → Moment Secrets → Moment Secrets → Relayed → Type 0
RelayTells holds asked a b told =
    (members : MemberList) × AreTaken holds asked.members.now members
    × ((m : ℕ) × (own_in members asked.own.now ≡ Some m) × MemberRelays members m asked a b told)

-- so it is between what is outside before and after
abbrev pub RelayTellsOn : {A B C : Type 0} → disk.Ghosts A → source.Ghosts B → sink.Ghosts C
    → Option Files → Request → Outside A B C → Outside A B C → Relayed → Type 0
RelayTellsOn D S T holds asked out after told =
    RelayTells holds asked (outside D S T asked out) (outside D S T asked after) told

-- why nothing is told: the member file was not taken, or has no such member, or its node came to that
abbrev pub RelayEnds : {S : Type 0} → shelf.Ghosts S → S → S → Request → Moment Secrets → Moment Secrets → Status → Type 0
RelayEnds F before after asked a b status =
    StopsIn F before after (members_work asked.members.now (λ members. nothing_more)) status
    ⊎ ((members : MemberList) × AreTaken (F.holds before) asked.members.now members
    × (((own_in members asked.own.now ≡ None) × (status ≡ Own))
    ⊎ ((m : ℕ) × (own_in members asked.own.now ≡ Some m) × IsHalted accepts_by (start_in members m) a b status)))

-- so it is between what is outside before and after
abbrev pub RelayEndsOn : {F A B C : Type 0} → shelf.Ghosts F → disk.Ghosts A → source.Ghosts B → sink.Ghosts C
    → F → F → Request → Outside A B C → Outside A B C → Status → Type 0
RelayEndsOn F D S T before after asked out end status =
    RelayEnds F before after asked (outside D S T asked out) (outside D S T asked end) status

-- the line that a call writes to standard error: that of the status, but for words that are not accepted
abbrev pub told_line : Status → List ℕ
told_line Usage = codes "hashgraph: usage: relay ask|serve --members FILE --own NAME --disk FILE --exchanges N --time T --block FILE [--proof FILE]\n"
told_line status = status_line status

-- the words that were found, or what a call comes to without them: one was no text, or memory ran out
abbrev pub words_in : {W E : Type 0} → Result (Option W) E → Result W Status
words_in (Ok (Some words)) = Ok words
words_in (Ok None) = Err Usage
words_in (Err e) = Err Memory

-- the status of a call, however it came
abbrev pub ended_as : Result Status Status → Status
ended_as (Ok status) = status
ended_as (Err status) = status
