-- Whom a member draws at its turns: one of the others that have nodes
use Rattle.std.specs.Prelude.{ℕ, zero, suc, cond, ◌≡◌, ◌+◌, ◌-◌, ◌<◌, ◌≤◌, All, ◌%◌, ◌^◌, ◌==◌, List, length, get_or, position, Option}
use Rattle.hg_model.specs.Places.{list_below}
use Rattle.hg_life.specs.Members.{MemberList, has_node}
use Rattle.hg_made.specs.Draws.{state_after, upper_half}
use Rattle.hg_made.specs.Made.{peer_of}
use Rattle.hg_storm.specs.declared.plan.Plan.{Plan}

-- the members that have nodes, in order
abbrev pub circle_of : MemberList → List ℕ
circle_of members = list_below (λ m. m) (length members.entries) (has_node members)

-- a member's place among them, if it has a node
abbrev pub place_in : List ℕ → ℕ → Option ℕ
place_in circle me = position (λ m. m == me) circle

-- the members that draw each other are among so many
pub record IsCircle (count : ℕ) (plan : Plan) : Type 0 where
  pub few : length plan.circle.items ≤ 128
  pub members : All (λ m. m < count) plan.circle.items

-- the state with which a member's draws begin
abbrev pub first_state : ℕ → ℕ → ℕ
first_state seed me = (seed + me) % 2 ^ 64

-- whom the member at a place draws, where this is the state after the draw: itself is left out
abbrev pub peer_drawn : List ℕ → ℕ → ℕ → ℕ
peer_drawn circle place state = get_or circle (peer_of place (upper_half state % (length circle - 1))) 0

-- the state of a member's draws before turn t, the first being 0
abbrev pub state_at : Plan → ℕ → ℕ → ℕ
state_at plan me t = state_after (first_state plan.seed me) t

-- whom it draws at that turn
abbrev pub peer_at : Plan → ℕ → ℕ → ℕ → ℕ
peer_at plan me place t = peer_drawn plan.circle.items place (state_at plan me (t + 1))

-- a member's draws are at that state before turn t, where it draws at all
abbrev pub IsDrawing : Plan → ℕ → ℕ → ℕ → Type 0
IsDrawing plan me t state = 1 < length plan.circle.items → state ≡ state_at plan me t

-- it draws this member at turn t: it draws where there is another
pub record Draws (plan : Plan) (me place t k : ℕ) : Type 0 where
  pub others : 1 < length plan.circle.items
  pub peer : k ≡ peer_at plan me place t

-- in how many of its first turns it draws this member
abbrev pub times_drawn : Plan → ℕ → ℕ → ℕ → ℕ → ℕ
times_drawn plan me place zero k = 0
times_drawn plan me place (suc t) k = times_drawn plan me place t k + cond (k == peer_at plan me place t) 1 0

-- of its first turns this is the last one that draws this member
pub record IsLastDraw (plan : Plan) (me place turns k turn : ℕ) : Type 0 where
  pub early : turn < turns
  pub draws : Draws plan me place turn k
  pub last : (later : ℕ) → turn < later → later < turns → Draws plan me place later k → ⊥

-- one of its first turns draws this member
pub record HasDrawn (plan : Plan) (me place turns k : ℕ) : Type 0 where
  pub turn : ℕ
  pub early : turn < turns
  pub draws : Draws plan me place turn k
