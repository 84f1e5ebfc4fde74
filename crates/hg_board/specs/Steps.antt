-- What each kind of step tells its seat, and what split and join make of views
use Rattle.std.specs.Prelude.{◌≡◌, ◌≢◌, ℕ, ◌+◌, ◌-◌, ◌<◌, ◌≤◌, List, [], ◌∷◌, ◌++◌, length, cond, nat_le, Option, Some}
use Rattle.atomic_table.specs.Table.{Me, Step}
use Rattle.hg_model.specs.Orders.{IsPrefix}
use Rattle.hg_life.specs.History.{Change}
use Rattle.hg_life.specs.NodeView.{NodeView, IsNode}
use Rattle.hg_life.specs.Signing.{Accepts}
use Rattle.hg_board.specs.Positions.{times, AreBelow}
use Rattle.hg_board.specs.declared.view.Hold.{Hold}
use Rattle.hg_board.specs.declared.view.Hold.TheVariants.{Free, Taken, Loaded}
use Rattle.hg_board.specs.declared.view.View.{View}
use Rattle.hg_board.specs.Table.{HasSeen, all_parts, node_at, view}

-- of two lists of changes the longer, and the other
abbrev pub longer : List Change → List Change → List Change
longer xs ys = cond (nat_le (length xs) (length ys)) ys xs

abbrev pub shorter : List Change → List Change → List Change
shorter xs ys = cond (nat_le (length xs) (length ys)) xs ys

-- a seat's view, and the slots that it has taken, with the node in them
abbrev pub Hand : Type 0 → Type 0
Hand V = Me (Option (NodeView V)) (View V)

-- what a step tells, of the seat before, the number that it found and the seat after
abbrev pub StepMeaning : Type 0 → Type 1
StepMeaning V = Step (Option (NodeView V)) → Hand V → ℕ → Hand V → Type 0

module _ {V : Type 0} where
  abbrev pub with_hold : View V → Hold → View V
  with_hold v hold = view v.start v.seen v.told v.mine v.parts hold

  -- the seat has the turn, and in its slot a node that has the history: one of which it had seen a prefix
  pub record HasTaken (accepts : V → Accepts) (m n : Hand V) : Type 0 where
    pub start : NodeView V
    pub history : List Change
    pub from : m.0.start ≡ Some start
    pub knows : HasSeen start m.0.seen m.0.mine
    pub seen : IsPrefix m.0.seen history
    pub node : IsNode accepts (node_at start history)
    pub taken : n ≡ (with_hold m.0 (Taken history), (0, Some (node_at start history)) ∷ [])

  -- 1, take the turn: where it was free
  abbrev pub taken : (V → Accepts) → StepMeaning V
  taken accepts step m found n = (found ≡ 0 → HasTaken accepts m n) × (found ≢ 0 → n ≡ m)

  -- 4, raise the count, for the change that this step adds; the node may be out
  abbrev pub raised : Change → StepMeaning V
  raised change step m found n =
      n ≡ (view m.0.start (m.0.seen ++ change ∷ []) m.0.told (m.0.mine ++ length m.0.seen ∷ []) m.0.parts Loaded, m.1)

  -- 5, load the count: it is the length of the history, which then is seen
  abbrev pub loaded : StepMeaning V
  loaded step m found n = (history : List Change) → m.0.hold ≡ Taken history →
      (found ≡ length history) × (n ≡ (view m.0.start history m.0.told m.0.mine m.0.parts Loaded, m.1))

  -- 6, give the turn
  abbrev pub given : StepMeaning V
  given step m found n = n ≡ (with_hold m.0 Free, [])

  -- what was told is a prefix of what was seen, where it is not longer; the seen history is a node's; of the seat's
  -- positions none stands twice and all are within
  pub record HasCompared (accepts : V → Accepts) (m n : Hand V) : Type 0 where
    pub start : NodeView V
    pub from : m.0.start ≡ Some start
    pub told : length m.0.told ≤ length m.0.seen → IsPrefix m.0.told m.0.seen
    pub node : IsNode accepts (node_at start m.0.seen)
    pub once : (p : ℕ) → times p m.0.mine ≤ 1
    pub within : AreBelow (length m.0.seen) m.0.mine
    pub parts : m.0.parts ≤ all_parts
    pub cleared : n ≡ (view m.0.start m.0.seen [] m.0.mine m.0.parts m.0.hold, m.1)

  -- 5 after 8, load the count, and compare
  abbrev pub compared : (V → Accepts) → StepMeaning V
  compared accepts step m found n = HasCompared accepts m n

  -- 7, split a seat
  abbrev pub after_split : View V → View V
  after_split v = view v.start v.seen v.told v.mine (v.parts - 1) v.hold

  abbrev pub split_off : View V → View V
  split_off v = view v.start v.seen [] [] 1 Free

  -- 8, join a seat into another
  abbrev pub joined : View V → View V → View V
  joined v w = view v.start (longer v.seen w.seen) (shorter v.seen w.seen) (v.mine ++ w.mine) (v.parts + w.parts) v.hold

  -- a seat between two calls
  pub record IsAtRest (m : Hand V) : Type 0 where
    pub empty : m.1 ≡ []
    pub free : m.0.hold ≡ Free
    pub untold : m.0.told ≡ []
    pub alive : 0 < m.0.parts
