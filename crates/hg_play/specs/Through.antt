-- Lines that are played over nodes between threads, while others mark: what they print is that of the rows alone
use Rattle.std.specs.Prelude.{ℕ, ◌≡◌, ◌<◌, ⊤, List, [], length, map, get_or, take, IfOk, Option, Some, None, Result}
use Rattle.std.specs.declared.sync.Arc.{Arc}
use Rattle.hg_life.specs.declared.answers.SyncMade.{SyncMade}
use Rattle.hg_model.specs.declared.row.Row.{Row}
use Rattle.hg_model.specs.Held.{lacking}
use Rattle.hg_model.specs.Graph.{HasDistinctNames}
use Rattle.hg_life.specs.Members.{MemberList}
use Rattle.hg_life.specs.Signing.{accepts_by}
use Rattle.hg_life.specs.NodeView.{NodeView}
use Rattle.hg_life.specs.Spelling.{spelling}
use Rattle.hg_gossip.specs.declared.gossip.Taken.{Taken}
use Rattle.hg_script.specs.declared.line.Gossip.TheVariants.{Create, Sync, Pull, Join, Give}
use Rattle.hg_script.specs.declared.line.Source.TheVariants.{Last}
use Rattle.hg_script.specs.declared.line.Part.{Part}
use Rattle.hg_script.specs.declared.line.Part.TheVariants as part
use Rattle.hg_script.specs.declared.line.Action.{Action}
use Rattle.hg_script.specs.declared.line.Action.TheVariants as action
use Rattle.hg_script.specs.declared.line.Line.{Line}
use Rattle.hg_world.specs.World.{Secrets, WorldView, node_at, rows_at}
use Rattle.hg_world.specs.Parts.{AreOfOneList}
use Rattle.hg_world.specs.Steps.{after_steps}
use Rattle.hg_world.specs.Syncs.{HasPulled, HasTaken, deliver_steps, last_made, made_after, make_steps, pull_steps}
use Rattle.hg_board.specs.Table as board
use Rattle.hg_board.specs.Seats.{SharedNode, SeatView}
use Rattle.hg_board.specs.Taking.{AreSignedFor, AreSpelled}
use Rattle.hg_crowd.specs.Crowd.{AreSeats, AreStill, Each, OthersMark}
use Rattle.hg_crowd.specs.Party.{PartyView, party_view}
use Rattle.hg_play.specs.Alike.{AreAlike, WorldsAlike}
use Rattle.hg_play.specs.Labels.{bytes_of_event, last_bytes}
use Rattle.hg_play.specs.Nodes.{IsStage, NodesView, Matched}
use Rattle.hg_play.specs.Play.{Stage, after_line, after_lines}
use Rattle.hg_play.specs.Tape.{TapeView}

-- the node as the seat has seen it
abbrev pub node_seen : SharedNode Secrets → SeatView Secrets → NodeView Secrets
node_seen p s = board.node_at p.start s.seen

-- the nodes that the seats have seen are those of the world, but for marks
pub record AreSeen (places : List (SharedNode Secrets)) (seats : List (SeatView Secrets)) (w : WorldView) : Type 0 where
  pub count : length w.sites ≡ length seats
  pub nodes : (m : ℕ) (p : SharedNode Secrets) (s : SeatView Secrets) → m < length seats → AreAlike (node_at w m) (node_seen (get_or places m p) (get_or seats m s))

-- of no node others did more than mark
abbrev pub AllOthersMark : List (SharedNode Secrets) → List (SeatView Secrets) → Type 0
AllOthersMark places seats = Each OthersMark places seats

-- the nodes that were shared, as they were then
abbrev pub begun : List (SharedNode Secrets) → List (NodeView Secrets)
begun places = map (λ (p : SharedNode Secrets). p.start) places

-- nodes of one list of members and with the same keys, and a seat of each
pub record AreNodes (places : List (SharedNode Secrets)) (seats : List (SeatView Secrets)) : Type 0 where
  pub seated : AreSeats accepts_by places seats
  pub one_list : AreOfOneList (begun places)

-- rows of different names, which are spelled as these say, and whose signatures each of the nodes accepts
pub record AreHanded (places : List (SharedNode Secrets)) (rows : List Row) : Type 0 where
  pub signed : (m : ℕ) (p : SharedNode Secrets) → m < length places → AreSignedFor accepts_by (get_or places m p).start.start rows
  pub distinct : HasDistinctNames rows
  pub spelled : AreSpelled rows

-- nodes between threads, as the caller who has these seats sees them
abbrev pub seen_shared : PartyView Secrets → NodesView (PartyView Secrets)
seen_shared v = record {
  count = length v.seats;
  Alone = AllOthersMark v.places v.seats;
  Agrees = AreSeen v.places v.seats;
  Since = λ earlier. (v.places ≡ earlier.places) × AreStill earlier.seats v.seats;
}

-- the nodes of one thread, as those of each world whose nodes are alike
abbrev pub seen_alike : WorldView → NodesView WorldView
seen_alike w = record { count = length w.sites; Alone = ⊤; Agrees = WorldsAlike w; Since = λ earlier. ⊤ }

-- what the seats have seen, the labels, and what was printed are those of a stage, but for marks
abbrev pub IsStageOf : MemberList → List (SharedNode Secrets) → List (SeatView Secrets) → TapeView → Stage → Type 0
IsStageOf members places seats t s = IsStage members (seen_shared (party_view places seats)) t s

-- so are the nodes of this world
abbrev pub IsStageLike : MemberList → WorldView → TapeView → Stage → Type 0
IsStageLike members w t s = IsStage members (seen_alike w) t s

-- the member whose node a line works on, if there is one: of a sync or a pull the taker
abbrev pub worked_on : Part → Option ℕ
worked_on (part.Gossip (Create m time payload)) = Some m
worked_on (part.Gossip (Sync taker peer time payload)) = Some taker
worked_on (part.Gossip (Pull taker peer)) = Some taker
worked_on (part.Gossip (Join m others time payload)) = Some m
worked_on (part.Gossip (Give m label)) = Some m
worked_on (part.Label (Last m)) = Some m
worked_on (part.Label _) = None

-- what the line prints does not depend on marks
abbrev pub IsOfRows : Action → Type 0
IsOfRows (action.Freeze m worker) = ⊥
IsOfRows (action.Publish m worker) = ⊥
IsOfRows (action.Kept m) = ⊥
IsOfRows _ = ⊤

-- stages that differ in marks alone
pub record StagesAlike (s t : Stage) : Type 0 where
  pub world : WorldsAlike s.world t.world
  pub labels : s.labels ≡ t.labels
  pub printed : s.printed ≡ t.printed

-- such lines print alike over them, and leave stages that differ in marks alone
abbrev pub LinesNeedRowsAlone : Type 0
LinesNeedRowsAlone =
    (members : MemberList) (s t : Stage) (line : Line) → IsOfRows line.action → StagesAlike s t → StagesAlike (after_line members s line) (after_line members t line)

-- if others only mark, then after the lines they are those of the stage after them
abbrev pub MatchesParts : {N : Type 0} → MemberList → List Line → NodesView N → TapeView → NodesView N → TapeView → Type 0
MatchesParts members lines old t new t_new = new.Alone → (s : Stage) → IsStage members old t s → IsStage members new t_new (after_lines members s lines)

-- so it is of the first of these lines, as many as were played, unless memory ran out
abbrev pub PlaysFirst : {N E : Type 0} → Result (TapeView × ℕ) E → MemberList → List Line → NodesView N → TapeView → NodesView N → Type 0
PlaysFirst result members lines old t new = IfOk result (λ r. MatchesParts members (take r.1 lines) old t new r.0)

-- the same of nodes between threads
abbrev pub MatchesThrough : MemberList → List Line → List (SharedNode Secrets) → List (SeatView Secrets) → TapeView → List (SeatView Secrets) → TapeView → Type 0
MatchesThrough members lines places seats t seats_new t_new =
    AllOthersMark places seats_new → (s : Stage) → IsStageOf members places seats t s → IsStageOf members places seats_new t_new (after_lines members s lines)

abbrev pub PlaysThrough : {E : Type 0} → Result (TapeView × ℕ) E → MemberList → List Line → PartyView Secrets → TapeView → List (SeatView Secrets) → Type 0
PlaysThrough result members lines old t seats_new = IfOk result (λ r. MatchesThrough members (take r.1 lines) old.places old.seats t seats_new r.0)

-- nothing was added: they are the nodes of the same worlds
abbrev pub MatchesNone : {N : Type 0} → NodesView N → NodesView N → Type 0
MatchesNone old new = new.Alone → (w : WorldView) → old.Agrees w → new.Agrees w

-- the bytes of these rows, but for those whose names member m's node has
abbrev pub lacking_at : WorldView → ℕ → List Row → List (List ℕ)
lacking_at w m rows = map spelling (lacking (rows_at w m) rows)

-- of rows that came to a node, one after the other, but for those whose names it had
abbrev pub MatchesTaken : {N : Type 0} → NodesView N → NodesView N → ℕ → List Row → Taken → Type 0
MatchesTaken old new m rows counts =
    Matched old new (λ w. deliver_steps m (lacking_at w m rows))
    (λ w. HasTaken w m (lacking_at w m rows) counts (after_steps w (deliver_steps m (lacking_at w m rows))))

-- of a pull, and of the name of the last row that the peer made
abbrev pub MatchesPulled : {N : Type 0} → NodesView N → NodesView N → ℕ → ℕ → Taken → Option (List ℕ) → Type 0
MatchesPulled old new taker peer counts last =
    Matched old new (λ w. pull_steps w taker peer)
    (λ w. HasPulled w taker peer counts (after_steps w (pull_steps w taker peer)) × (last ≡ last_made (node_at w peer)))

-- of the last event that a node made, if it made any
abbrev pub MatchesLastEvent : {N A : Type 0} → NodesView N → NodesView N → ℕ → Option (Arc Row A) → Type 0
MatchesLastEvent old new m event = Matched old new (λ w. []) (λ w. bytes_of_event event ≡ last_bytes (node_at w m))

-- of an event that was made on this other-parent, or refused; none where there is no name
abbrev pub MatchesMade : {N : Type 0} → NodesView N → NodesView N → ℕ → Option (List ℕ) → ℕ → List ℕ → SyncMade → Type 0
MatchesMade old new m other time payload made =
    Matched old new (λ w. make_steps m other time payload) (λ w. made ≡ made_after (node_at w m) other time payload)
