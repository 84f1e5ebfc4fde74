-- What becomes of many nodes whose lines are played through one seat each, beside workers
use Rattle.std.specs.Prelude.{◌≡◌, ℕ, ◌<◌, List, length, get_or, map}
use Rattle.hg_life.specs.Signing.{Accepts}
use Rattle.hg_life.specs.NodeView.{NodeView}
use Rattle.hg_model.specs.Shares.{whole}
use Rattle.hg_board.specs.Seats.{SharedNode, SeatView}
use Rattle.hg_board.specs.Calls.{after_split, split_off}
use Rattle.hg_crowd.specs.Crowd.{AreSeats, AreStill, Each, IsEnded}
use Rattle.hg_crowd.specs.Workers.{AllAbsorb, AllMark, AreStarted, AreWhole, HasAllMarks, Worked}

module _ {V : Type 0} where
  -- of each of these seats one was split off, and calls went through it, beside others that worked with these; all came back, and
  -- worked again
  pub record CallsBeside (accepts : V → Accepts) (shared : List (SharedNode V)) (firsts called lasts : List (SeatView V)) : Type 0 where
    pub beside : List (SeatView V)
    pub back : List (SeatView V)
    pub still : AreStill (map split_off firsts) called
    pub seats : AreSeats accepts shared called
    pub worked : Each Worked (map after_split firsts) beside
    pub absorbed : AllAbsorb accepts shared beside called back
    pub again : Each Worked back lasts

  -- nodes were started, calls went through seats that were split off the first ones, and the nodes were finished
  pub record IsSession (accepts : V → Accepts) (nodes : List (NodeView V)) (shared : List (SharedNode V)) (called : List (SeatView V)) (ends : List (NodeView V)) : Type 0 where
    pub firsts : List (SeatView V)
    pub lasts : List (SeatView V)
    pub started : AreStarted accepts nodes shared firsts
    pub calls : CallsBeside accepts shared firsts called lasts
    pub whole : AreWhole shared lasts ends

  -- each node of the list was ended so
  pub record AreEnded (shared : List (SharedNode V)) (called : List (SeatView V)) (ends : List (NodeView V)) : Type 0 where
    pub shared_count : length shared ≡ length ends
    pub called_count : length called ≡ length ends
    pub each : (k : ℕ) (p : SharedNode V) (s : SeatView V) (node : NodeView V) → k < length ends → IsEnded (get_or shared k p) (get_or called k s) (get_or ends k node)

-- then others only marked, and each node has the rows that its seat has seen
abbrev pub SessionsEnd : Type 0 → Type 0
SessionsEnd V = (accepts : V → Accepts) (nodes : List (NodeView V)) (shared : List (SharedNode V)) (called : List (SeatView V)) (ends : List (NodeView V)) →
    IsSession accepts nodes shared called ends → AreEnded shared called ends

-- if the workers' last turn found memory, each witness that the rows of a node decide has its mark
abbrev pub SessionsMark : Type 0 → Type 0
SessionsMark V = (accepts : V → Accepts) (nodes : List (NodeView V)) (shared : List (SharedNode V)) (called : List (SeatView V)) (ends : List (NodeView V)) →
    (run : IsSession accepts nodes shared called ends) → AllMark shared whole run.calls.back run.lasts →
    (k : ℕ) (node : NodeView V) → k < length ends → HasAllMarks (get_or ends k node)
