-- The rule of the table that keeps a node between threads: there is one history, and what each seat knows of it is so.
-- The first word is the turn, 0 or 1, the second the count of changes; the one slot keeps the node
use Rattle.std.specs.Prelude.{◌≡◌, ℕ, ◌<◌, ◌≤◌, List, [], ◌∷◌, length, sum_by, Option, Some, None}
use mathlib.Core.Option.{some, none}
use lib.ListN.{get_elem?}
use Rattle.atomic_table.specs.Table.{State}
use Rattle.hg_model.specs.Orders.{IsPrefix}
use Rattle.hg_life.specs.History.{Change}
use Rattle.hg_life.specs.NodeView.{NodeView, IsNode}
use Rattle.hg_life.specs.Signing.{Accepts}
use Rattle.hg_board.specs.Positions.{times, once_from, AreBelow}
use Rattle.hg_board.specs.declared.view.Hold.{Hold}
use Rattle.hg_board.specs.declared.view.Hold.TheVariants.{Free, Taken, Loaded}
use Rattle.hg_board.specs.declared.view.View.{View}

-- how many parts the first seat has
abbrev pub all_parts : ℕ
all_parts = 65536

-- how many turns a view holds
abbrev pub turns_of : Hold → ℕ
turns_of Free = 0
turns_of (Taken history) = 1
turns_of Loaded = 1

module _ {V : Type 0} where
  -- the node, where this is its history
  abbrev pub node_at : NodeView V → List Change → NodeView V
  node_at node history = record { start = node.start; history = history }

  abbrev pub view : Option (NodeView V) → List Change → List Change → List ℕ → ℕ → Hold → View V
  view start seen told mine parts hold = record { start = start; seen = seen; told = told; mine = mine; parts = parts; hold = hold }

  -- that of the first seat: all is known of the node that the table is started with
  abbrev pub first_view : NodeView V → View V
  first_view start = view (Some start) start.history [] [] all_parts Free

  -- that of a seat that was absorbed
  abbrev pub spent : View V
  spent = view None [] [] [] 0 Free

  -- a view that holds the turn knows the history: as it found it, and once the count is loaded as what it has seen
  abbrev pub Holds : List Change → View V → Hold → Type 0
  Holds history v Free = Unit {0}
  Holds history v (Taken found) = found ≡ history
  Holds history v Loaded = v.seen ≡ history

  -- it has seen the history of the start and its own changes
  pub record HasSeen (start : NodeView V) (seen : List Change) (mine : List ℕ) : Type 0 where
    pub begun : IsPrefix start.history seen
    pub within : AreBelow (length seen) mine

  -- what is so of each view, where this is the history
  pub record Fits (start : NodeView V) (history : List Change) (v : View V) : Type 0 where
    pub seen : IsPrefix v.seen history
    pub told : IsPrefix v.told history
    pub held : Holds history v v.hold
    pub within : AreBelow (length v.seen) v.mine
    -- a view that is not spent has a part at least, and knows the start, whose history it has seen
    pub alive : 0 < v.parts → v.start ≡ Some start
    pub begun : 0 < v.parts → IsPrefix start.history v.seen
    pub gone : v.parts ≡ 0 → v ≡ spent

  -- the rule, at every moment
  pub record Orderly (accepts : V → Accepts) (start : NodeView V) (s : State (Option (NodeView V)) (View V)) : Type 0 where
    pub history : List Change
    pub turn : ℕ
    -- the count is the history's length
    pub words : s.words ≡ turn ∷ length history ∷ []
    -- the turn is 1 exactly where one view holds it
    pub one_turn : turn ≤ 1
    pub holders : sum_by (λ (v : View V). turns_of v.hold) s.views ≡ turn
    -- the slot is at home exactly where the turn is 0; the node in it has the history, and all else as at the start
    pub home : turn ≡ 0 → s.homes ≡ some (Some (node_at start history)) ∷ []
    pub away : turn ≡ 1 → s.homes ≡ none ∷ []
    -- it goes on from that of the start, as a node's history may
    pub later : IsPrefix start.history history
    pub node : IsNode accepts (node_at start history)
    pub each : (j : ℕ) (v : View V) → get_elem? s.views j ≡ some v → Fits start history v
    -- the parts of the views are all
    pub parts : sum_by (λ (v : View V). v.parts) s.views ≡ all_parts
    -- each position since the start is in the `mine` of exactly one view, once, and no other position in any
    pub once : (p : ℕ) → sum_by (λ (v : View V). times p v.mine) s.views ≡ once_from (length start.history) (length history) p
