-- Lines that are played over a world whose nodes are those of a stage but for marks, some of them between threads
use Rattle.std.specs.Prelude.{ℕ, ◌≡◌, ◌<◌, ◌≤◌, Bool, true, false, List, length, map, take, get_or}
use Rattle.hg_outcome.specs.declared.outcome.Printed.{Printed}
use Rattle.hg_model.specs.Shares.{whole}
use Rattle.hg_life.specs.Members.{MemberList}
use Rattle.hg_life.specs.Signing.{accepts_by}
use Rattle.hg_gossip.specs.Handing.{HeardView}
use Rattle.hg_gossip.specs.Known.{KeepsKnown}
use Rattle.hg_script.specs.declared.line.Action.{Action}
use Rattle.hg_script.specs.declared.line.Action.TheVariants as action
use Rattle.hg_script.specs.declared.line.Line.{Line}
use Rattle.hg_world.specs.World.{Secrets, WorldView, node_at}
use Rattle.hg_board.specs.Seats.{SeatView}
use Rattle.hg_board.specs.Calls.{split_off}
use Rattle.hg_crowd.specs.Workers.{AllMark, HasAllMarks}
use Rattle.hg_crowd.specs.Party.{PartyView, party_view}
use Rattle.hg_crowd.specs.Laws.{CallsBeside}
use Rattle.hg_play.specs.Alike.{WorldsAlike}
use Rattle.hg_play.specs.Heard.{rows_seen}
use Rattle.hg_play.specs.Play.{Stage, after_lines, first_stage}
use Rattle.hg_play.specs.Tape.{TapeView}
use Rattle.hg_play.specs.Through.{IsOfRows, IsStageLike, MatchesThrough}

-- the world's nodes, the labels and what was printed are those of the stage after these lines, where they were those of a
-- stage before
abbrev pub MatchesBatch : MemberList → List Line → WorldView → TapeView → WorldView → TapeView → Type 0
MatchesBatch members lines old t new t_new = (s : Stage) → IsStageLike members old t s → IsStageLike members new t_new (after_lines members s lines)

-- what the line prints does not depend on marks
abbrev pub IsLineOfRows : Line → Type 0
IsLineOfRows line = IsOfRows line.action

-- at most this many lines are one batch
abbrev pub most_lines : ℕ
most_lines = 32

-- the line may stand in a batch
abbrev pub is_part : Action → Bool
is_part (action.Part p) = true
is_part _ = false

-- the first lines, so many, are a batch: as many as it may have, or all lines, or the next one stands in none
pub record IsBatch (lines : List Line) (count : ℕ) : Type 0 where
  pub within : count ≤ length lines
  pub few : count ≤ most_lines
  pub stops : (line : Line) → count < length lines → count < most_lines → is_part (get_or lines count line).action ≡ false

-- each witness that the rows of one of its nodes decide is marked there
abbrev pub AllAreMarked : WorldView → Type 0
AllAreMarked w = (m : ℕ) → m < length w.sites → HasAllMarks (node_at w m)

-- the first of these lines, so many, were played through seats that were split off these, beside workers who only marked; all
-- seats came back, and then all was marked that the nodes' rows decide
pub record PlaysBeside (members : MemberList) (lines : List Line) (old : PartyView Secrets) (t : TapeView) (new : PartyView Secrets) (known : List (List HeardView)) (t_new : TapeView) (count : ℕ) : Type 0 where
  pub places : new.places ≡ old.places
  pub batch : IsBatch lines count
  pub called : List (SeatView Secrets)
  pub calls : CallsBeside accepts_by old.places old.seats called new.seats
  pub marked : AllMark old.places whole calls.back new.seats
  pub heard : KeepsKnown (rows_seen (party_view old.places called)) known
  pub told : MatchesThrough members (take count lines) old.places (map split_off old.seats) t called t_new

-- the lines from one on up to another were played
pub record PlaysNext (members : MemberList) (lines : List Line) (from : ℕ) (old : WorldView) (t : TapeView) (new : WorldView) (t_new : TapeView) (to : ℕ) : Type 0 where
  pub further : from < to
  pub within : to ≤ length lines
  pub count : length new.sites ≡ length old.sites
  pub told : (s : Stage) → IsStageLike members old t (after_lines members s (take from lines)) → IsStageLike members new t_new (after_lines members s (take to lines))

-- all lines were played over the members' nodes: what they print, and the nodes but for marks
pub record IsPlayed (members : MemberList) (lines : List Line) (new : WorldView) (printed : List Printed) : Type 0 where
  pub world : WorldsAlike new (after_lines members (first_stage members) lines).world
  pub pieces : printed ≡ (after_lines members (first_stage members) lines).printed
