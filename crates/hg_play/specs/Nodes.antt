-- Many nodes that lines are played over: of one thread, or shared with others who add nothing but marks. What a call
-- answers is told once it is known that others did no more. Lines that need the marks are played over a world
use Rattle.std.specs.Prelude.{ℕ, ◌≡◌, ⊤, cond, List, [], ◌∷◌, ◌++◌, length, OnOk, Result}
use Rattle.hg_life.specs.declared.answers.PutAnswer.{PutAnswer}
use Rattle.hg_life.specs.declared.answers.MakeAnswer.{MakeAnswer}
use Rattle.hg_life.specs.declared.answers.SyncReport.{SyncReport}
use Rattle.hg_outcome.specs.declared.outcome.Block.{Block}
use Rattle.hg_outcome.specs.declared.outcome.Printed.{Printed}
use Rattle.hg_outcome.specs.declared.outcome.Outcome.{Outcome}
use Rattle.hg_life.specs.Members.{MemberList, has_node, names_of}
use Rattle.hg_outcome.specs.Ledger.{block_of}
use Rattle.hg_life.specs.NodeView.{NodeView}
use Rattle.hg_gossip.specs.declared.gossip.Taken.{Taken}
use Rattle.hg_script.specs.declared.line.Gossip.{Gossip}
use Rattle.hg_script.specs.declared.line.Source.{Source}
use Rattle.hg_script.specs.declared.line.Part.{Part}
use Rattle.hg_script.specs.declared.line.Line.{Line}
use Rattle.hg_world.specs.declared.step.Step.{Step}
use Rattle.hg_world.specs.declared.step.Step.TheVariants.{Make, Deliver}
use Rattle.hg_world.specs.World.{Secrets, WorldView, node_at, rows_at}
use Rattle.hg_world.specs.Steps.{after_steps, making_at, putting_at, settle_steps}
use Rattle.hg_world.specs.Syncs.{pull_steps, pulled, sync_report, sync_steps}
use Rattle.hg_world.specs.Parts.{IsWorld}
use Rattle.hg_play.specs.Labels.{last_bytes, source_bytes}
use Rattle.hg_play.specs.Lines.{gossip_printed, gossip_steps, kept_block, part_line}
use Rattle.hg_play.specs.Play.{Stage, after_line, after_lines, block_at, end_blocks, end_steps, stage, tape_of}
use Rattle.hg_play.specs.Sites.{IsMadeWith, starts, starts_of}
use Rattle.hg_play.specs.Tape.{TapeView}

-- many nodes at a moment, as their caller sees them: how many they are; that all that others did since the beginning are
-- marks; of which worlds they are the nodes, but for what others marked; and since which moments
pub record NodesView (N : Type 0) : Type 1 where
  pub count : ℕ
  pub Alone : Type 0
  pub Agrees : WorldView → Type 0
  pub Since : N → Type 0

-- the nodes of one thread are those of the world alone, to which nobody else does anything
abbrev pub seen_alone : WorldView → NodesView WorldView
seen_alone w = record { count = length w.sites; Alone = ⊤; Agrees = λ v. w ≡ v; Since = λ earlier. ⊤ }

-- what every call keeps. That others only mark is known of a moment where it is known of a later one
pub record IsKept {N : Type 0} (old new : NodesView N) : Type 0 where
  pub since : (earlier : N) → old.Since earlier → new.Since earlier
  pub back : new.Alone → old.Alone
  pub count : new.count ≡ old.count

-- if others only mark, then of each world whose nodes they were this is so, and they are now those after these steps
abbrev pub Matched : {N : Type 0} → NodesView N → NodesView N → (WorldView → List Step) → (WorldView → Type 0) → Type 0
Matched old new steps IsSo = new.Alone → (w : WorldView) → old.Agrees w → IsSo w × new.Agrees (after_steps w (steps w))

-- what is told of an event that a node made, or refused to make
abbrev pub MatchesMaking : {N : Type 0} → NodesView N → NodesView N → ℕ → List (List ℕ) → ℕ → List ℕ → MakeAnswer → Type 0
MatchesMaking old new m others time payload answer =
    Matched old new (λ w. Make m others time payload ∷ []) (λ w. answer ≡ making_at (node_at w m) others time payload)

-- of bytes that came to a node
abbrev pub MatchesPutting : {N : Type 0} → NodesView N → NodesView N → ℕ → List ℕ → PutAnswer → Type 0
MatchesPutting old new m bytes answer = Matched old new (λ w. Deliver m bytes ∷ []) (λ w. answer ≡ putting_at (node_at w m) bytes)

-- of a pull
abbrev pub MatchesPulling : {N : Type 0} → NodesView N → NodesView N → ℕ → ℕ → Taken → Type 0
MatchesPulling old new taker peer counts = Matched old new (λ w. pull_steps w taker peer) (λ w. counts ≡ (pulled w taker peer).counts)

-- of a sync
abbrev pub MatchesSyncing : {N : Type 0} → NodesView N → NodesView N → ℕ → ℕ → ℕ → List ℕ → SyncReport → Type 0
MatchesSyncing old new taker peer time payload report =
    Matched old new (λ w. sync_steps w taker peer time payload) (λ w. report ≡ sync_report w taker peer time payload)

-- of the bytes of the last event that a node made
abbrev pub MatchesLast : {N : Type 0} → NodesView N → NodesView N → ℕ → List ℕ → Type 0
MatchesLast old new m bytes = Matched old new (λ w. []) (λ w. bytes ≡ last_bytes (node_at w m))

-- the block is that of the rows of member m's node, where the nodes began as those of these members
abbrev pub IsShownBlock : MemberList → WorldView → ℕ → Block → Type 0
IsShownBlock members w m block = starts_of w ≡ starts members → block ≡ block_of members m (rows_at w m)

-- the block is that by the marks which the node has published
abbrev pub IsKeptBlock : MemberList → WorldView → ℕ → Block → Type 0
IsKeptBlock members w m block = starts_of w ≡ starts members → block ≡ kept_block members m (node_at w m)

-- so it is of this node, whichever members it was made with
abbrev pub IsBlockOf : {K : Type 0} → NodeView K → Block → Type 0
IsBlockOf v block = (members : MemberList) → IsMadeWith members v → block ≡ kept_block members v.start.own v

-- of a line of gossip, under its number
abbrev pub MatchesGossip : {N : Type 0} → NodesView N → NodesView N → List (List ℕ) → ℕ → Gossip → Printed → Type 0
MatchesGossip old new labels number gossip p =
    Matched old new (λ w. gossip_steps w labels gossip) (λ w. p ≡ gossip_printed w labels number gossip)

-- of the bytes from a source
abbrev pub MatchesSource : {N : Type 0} → NodesView N → NodesView N → Secrets → List (List ℕ) → Source → List ℕ → Type 0
MatchesSource old new secrets labels source bytes = Matched old new (λ w. []) (λ w. bytes ≡ source_bytes secrets w labels source)

-- the nodes, which began as those of these members, the labels, and what was printed are those of a stage
pub record IsStage {N : Type 0} (members : MemberList) (v : NodesView N) (t : TapeView) (s : Stage) : Type 0 where
  pub agrees : v.Agrees s.world
  pub begun : starts_of s.world ≡ starts members
  pub taped : t ≡ tape_of s

-- if others only mark, then after the line they are those of the stage after it
abbrev pub MatchesLine : {N : Type 0} → MemberList → Line → NodesView N → TapeView → NodesView N → TapeView → Type 0
MatchesLine members line old t new t_new = new.Alone → (s : Stage) → IsStage members old t s → IsStage members new t_new (after_line members s line)

-- so it is of nodes of one thread
abbrev pub PlaysLine : MemberList → Line → WorldView → TapeView → WorldView → TapeView → Type 0
PlaysLine members line old t new t_new = MatchesLine members line (seen_alone old) t (seen_alone new) t_new

-- so it is of what may stand in a batch, under its number, unless memory ran out
abbrev pub Plays : {N A E : Type 0} → Result A E → MemberList → ℕ → Part → NodesView N → TapeView → NodesView N → TapeView → Type 0
Plays result members number p old t new t_new = OnOk result (MatchesLine members (part_line number p) old t new t_new)

-- what is told of lines that were played over nodes that began as those of these members: all that they print, and that the
-- nodes are those of the world after them
abbrev pub MatchesLines : {N : Type 0} → NodesView N → NodesView N → MemberList → List Line → List Printed → Type 0
MatchesLines old new members lines printed =
    new.Alone → (w : WorldView) → old.Agrees w → starts_of w ≡ starts members →
    (let s = after_lines members (stage w [] []) lines in (printed ≡ s.printed) × new.Agrees s.world)

-- the same of nodes of one thread
abbrev pub PlaysLines : MemberList → List Line → WorldView → WorldView → List Printed → Type 0
PlaysLines members lines old new printed = MatchesLines (seen_alone old) (seen_alone new) members lines printed

-- of the block of a node behind what was printed, if the member has one
abbrev pub MatchesBlock : {N : Type 0} → NodesView N → NodesView N → MemberList → ℕ → List Printed → List Printed → Type 0
MatchesBlock old new members m before after =
    Matched old new (λ w. cond (has_node members m) (settle_steps m) [])
    (λ w. starts_of w ≡ starts members → after ≡ before ++ cond (has_node members m) (block_at members w m ∷ []) [])

abbrev pub Shows : MemberList → ℕ → WorldView → List Printed → WorldView → List Printed → Type 0
Shows members m old before new after = MatchesBlock (seen_alone old) (seen_alone new) members m before after

-- of the blocks of all nodes
abbrev pub MatchesBlocks : {N : Type 0} → NodesView N → NodesView N → MemberList → List Printed → List Printed → Type 0
MatchesBlocks old new members before after =
    Matched old new (λ w. end_steps members (length members.entries)) (λ w. starts_of w ≡ starts members → after ≡ before ++ end_blocks members w)

abbrev pub ShowsAll : MemberList → WorldView → List Printed → WorldView → List Printed → Type 0
ShowsAll members old before new after = MatchesBlocks (seen_alone old) (seen_alone new) members before after

-- the outcome has the members' names, what was printed, and behind it the blocks of all nodes, which are lawful then
pub record Closes (members : MemberList) (old : WorldView) (before : List Printed) (outcome : Outcome) : Type 0 where
  pub names : outcome.names ≡ names_of members
  pub last : WorldView
  pub blocks : MatchesBlocks (seen_alone old) (seen_alone last) members before outcome.printed
  pub lawful : IsWorld last
