-- The event that a node makes at its turn: its first one, or one on the last row by another member
use Rattle.std.specs.Prelude.{ℕ, ◌≡◌, cond, ◌==◌, List, [], ◌∷◌, fold, Option, Some, None, option_map}
use Rattle.hg_model.specs.declared.row.Row.{Row}
use Rattle.hg_life.specs.declared.answers.MakeFault.{MakeFault}
use Rattle.hg_life.specs.declared.answers.MakeFault.TheVariants as fault
use Rattle.hg_life.specs.declared.answers.MakeAnswer.{MakeAnswer}
use Rattle.hg_life.specs.declared.answers.MakeAnswer.TheVariants as answer
use Rattle.hg_life.specs.Verdict.{last_name}
use Rattle.hg_life.specs.NodeView.{NodeView, node_rows}
use Rattle.hg_life.specs.Calls.{IsMaking}
use Rattle.hg_life.specs.Signing.{Accepts}

-- the later of two names: the row's, where another member made it
abbrev pub later_other : ℕ → Option (List ℕ) → Row → Option (List ℕ)
later_other own last row = cond (row.creator == own) last (Some row.name)

-- the name of the last row that another member made
abbrev pub last_other : ℕ → List Row → Option (List ℕ)
last_other own G = fold (later_other own) None G

-- what the next event stands on beside the last own one: nothing where it is the first
abbrev pub others_after : Option (List ℕ) → Option (List ℕ) → Option (List (List ℕ))
others_after None other = Some []
others_after (Some last) other = option_map (λ name. name ∷ []) other

-- none where the node has made an event, and has no row by another member
abbrev pub next_others : {K : Type 0} → NodeView K → Option (List (List ℕ))
next_others v = others_after (last_name v.start.own (node_rows v)) (last_other v.start.own (node_rows v))

-- the name is another row's, or there is no room
abbrev pub IsLateFault : MakeFault → Type 0
IsLateFault (fault.Collision p) = Unit {0}
IsLateFault (fault.Full n) = Unit {0}
IsLateFault f = ⊥

-- what speaks against the event, if something does, is found once it is signed
abbrev pub IsLate : MakeAnswer → Type 0
IsLate (answer.Made p) = Unit {0}
IsLate (answer.Refused f) = IsLateFault f

-- an event without payload was made on these, or refused
pub record MakesOn {K : Type 0} (accepts : K → Accepts) (old : NodeView K) (others : List (List ℕ)) (time : ℕ) (made : MakeAnswer) (new : NodeView K) : Type 0 where
  pub making : IsMaking accepts old others time [] made new
  pub late : IsLate made

-- the next event was made, or refused; nothing was done where there is none
abbrev pub MakesNext : {K : Type 0} → (K → Accepts) → NodeView K → ℕ → Option MakeAnswer → NodeView K → Type 0
MakesNext accepts old time None new = (new ≡ old) × (next_others old ≡ None)
MakesNext accepts old time (Some made) new =
    (others : List (List ℕ)) × (next_others old ≡ Some others) × MakesOn accepts old others time made new
