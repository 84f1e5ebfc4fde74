-- What an ear stands for: what it makes of the bytes to come
use Rattle.std.specs.Prelude.{◌≡◌, ◌⊎◌, ◌≤◌, ◌<◌, ◌+◌, ◌-◌, ℕ, max, true, List, [], ◌++◌, length, drop, ⊤}
use Rattle.hg_model.specs.Orders.{IsPrefix}
use Rattle.hg_wire.specs.declared.message.Want.{Want}
use Rattle.hg_wire.specs.declared.message.Message.{Message}
use Rattle.hg_wire.specs.declared.message.Fed.{Fed}
use Rattle.hg_wire.specs.declared.message.Fed.TheVariants.{More, Whole, Refused}
use Rattle.hg_wire.specs.declared.message.WireFault.{WireFault}
use Rattle.hg_wire.specs.declared.progress.Stage.TheVariants.{Shut, Over}
use Rattle.hg_wire.specs.declared.progress.Progress.{Progress}
use Rattle.hg_wire.specs.declared.progress.Turn.{Turn}
use Rattle.hg_wire.specs.declared.progress.Turn.TheVariants as turn
use Rattle.hg_wire.specs.declared.hearing.Hearing.{Hearing}
use Rattle.hg_wire.specs.Grammar.{AreBytes}
use Rattle.hg_wire.specs.Outcome.{Outcome, Unfinished, Faulty, Finished, Reader}
use Rattle.hg_wire.specs.Reading.{read}
use Rattle.hg_wire.specs.Progress.{State, Into, Done, field, is_open, rest_of}
use Rattle.hg_wire.specs.Sizes.{behind, least_of}
use Rattle.hg_wire.specs.Views.{state_of}

-- what an ear keeps: the place in the message, and the bytes of the field there
pub record Place : Type 0 where
  pub state : State
  pub pending : List ℕ

abbrev pub place_of : Hearing → Place
place_of h = record { state = state_of h.progress; pending = h.pending.items }

-- what an ear makes of the bytes to come
abbrev pub means : Place → Reader Message
means ear more = rest_of ear.state (ear.pending ++ more)

-- the ear has heard these bytes of a stream
abbrev pub HasHeard : Want → List ℕ → Place → Type 0
HasHeard w so_far ear = (more : List ℕ) → means ear more ≡ read w (so_far ++ more)

-- no message was whole yet
abbrev pub IsOn : Place → Type 0
IsOn ear = (m : Message) (rest : List ℕ) → means ear [] ≡ Finished m rest → ⊥

-- the answer to a piece is its outcome
abbrev pub Answers : List ℕ → Outcome Message → Fed → Type 0
Answers piece o More = o ≡ Unfinished
Answers piece o (Whole m used) = (used ≤ length piece) × (o ≡ Finished m (drop used piece))
Answers piece o (Refused fault) = o ≡ Faulty fault

-- behind the piece the ear makes of the bytes to come what it made of the piece and them; a fault stands
abbrev pub GoesOn : Place → Place → List ℕ → Fed → Type 0
GoesOn old new piece More = (more : List ℕ) → means new more ≡ means old (piece ++ more)
GoesOn old new piece (Whole m used) = ⊤
GoesOn old new piece (Refused fault) = (more : List ℕ) → means new more ≡ Faulty fault

-- after More the ear has heard no fault and no whole message
abbrev pub WaitsIfMore : Place → Fed → Type 0
WaitsIfMore ear More = means ear [] ≡ Unfinished
WaitsIfMore ear (Whole m used) = ⊤
WaitsIfMore ear (Refused fault) = ⊤

-- how many bytes an ear wants: those that the field at its place lacks, as far as the first ones tell how many it has, or one;
-- and the fewest that stand behind it
abbrev pub wanted : Place → ℕ
wanted ear = max (least_of ear.state.stage ear.pending - length ear.pending) 1 + behind ear.state.stage

-- so many bytes at least are still to come of a message that more bytes make whole
abbrev pub LacksAtLeast : ℕ → Place → Type 0
LacksAtLeast count ear =
    (more rest : List ℕ) (m : Message) → AreBytes more → means ear more ≡ Finished m rest → count + length rest ≤ length more

-- ---- from within

-- what came of reading the field at the place from the front of these bytes
abbrev pub Turns : Progress → Progress → List ℕ → Turn → Type 0
Turns old new bytes turn.Waits = (field (state_of old) bytes ≡ Unfinished) × (new ≡ old)
Turns old new bytes (turn.On rest) = (field (state_of old) bytes ≡ Finished (Into (state_of new)) rest.now) × (is_open new.stage ≡ true)
Turns old new bytes (turn.Whole m rest) = (field (state_of old) bytes ≡ Finished (Done m) rest.now) × (new.stage ≡ Over)
Turns old new bytes (turn.Wrong fault) = (field (state_of old) bytes ≡ Faulty fault) × (new.stage ≡ Shut fault)

-- what an ear from within makes of the bytes to come
abbrev pub hears : Hearing → Reader Message
hears h more = rest_of (state_of h.progress) (h.pending.items ++ more)

-- the field at the place is not whole, and has no fault
abbrev pub IsWaiting : Hearing → Type 0
IsWaiting h = field (state_of h.progress) h.pending.items ≡ Unfinished

-- some first bytes were taken off these
abbrev pub IsBehind : List ℕ → List ℕ → Type 0
IsBehind bytes rest = (length rest < length bytes) × (drop (length bytes - length rest) bytes ≡ rest)

-- what came of the field at the place, of which some bytes came before these
abbrev pub Steps : Hearing → Hearing → List ℕ → Turn → Type 0
Steps old new bytes turn.Waits = IsWaiting new × ((more : List ℕ) → hears new more ≡ hears old (bytes ++ more))
Steps old new bytes (turn.On rest) =
    IsWaiting new × IsBehind bytes rest.now × ((more : List ℕ) → hears new (rest.now ++ more) ≡ hears old (bytes ++ more))
Steps old new bytes (turn.Whole m rest) =
    (new.progress.stage ≡ Over) × IsBehind bytes rest.now × ((more : List ℕ) → hears old (bytes ++ more) ≡ Finished m (rest.now ++ more))
Steps old new bytes (turn.Wrong fault) = (new.progress.stage ≡ Shut fault) × ((more : List ℕ) → hears old (bytes ++ more) ≡ Faulty fault)

-- what came of a piece, where these are the outcomes of the bytes to come behind it
abbrev pub HearsAs : Reader Message → Hearing → List ℕ → Fed → Type 0
HearsAs stream new piece More = IsWaiting new × ((more : List ℕ) → hears new more ≡ stream more)
HearsAs stream new piece (Whole m used) =
    (used ≤ length piece) × (new.progress.stage ≡ Over) × ((more : List ℕ) → stream more ≡ Finished m (drop used piece ++ more))
HearsAs stream new piece (Refused fault) = (new.progress.stage ≡ Shut fault) × ((more : List ℕ) → stream more ≡ Faulty fault)

abbrev pub Hears : Hearing → Hearing → List ℕ → Fed → Type 0
Hears old new piece fed = HearsAs (λ more. hears old (piece ++ more)) new piece fed

-- what came of a piece of which these bytes were left
abbrev pub HearsOn : Hearing → List ℕ → Hearing → List ℕ → Fed → Type 0
HearsOn old left new piece fed = HearsAs (λ more. hears old (left ++ more)) new piece fed

-- these are the last bytes of the piece
abbrev pub IsLeftOf : List ℕ → List ℕ → Type 0
IsLeftOf piece left = (length left ≤ length piece) × (drop (length piece - length left) piece ≡ left)

-- names and rows were added, if anything
pub record IsOnward (old new : State) : Type 0 where
  pub want : new.want ≡ old.want
  pub names : IsPrefix old.names new.names
  pub rows : IsPrefix old.rows new.rows

-- and bytes
abbrev pub IsBeyond : Place → Place → Type 0
IsBeyond old new = IsOnward old.state new.state × IsPrefix old.pending new.pending

-- what a step within bytes leaves where it went on
abbrev pub StepsKept : Hearing → Hearing → Turn → Type 0
StepsKept old new turn.Waits = ⊤
StepsKept old new (turn.On rest) = (new.pending.items ≡ []) × IsOnward (state_of old.progress) (state_of new.progress)
StepsKept old new (turn.Whole m rest) = ⊤
StepsKept old new (turn.Wrong fault) = ⊤

-- what a step across leaves where it went on: the bytes of the field are spare
abbrev pub CrossesKept : Hearing → Hearing → List ℕ → Turn → Type 0
CrossesKept old new spare turn.Waits = ⊤
CrossesKept old new spare (turn.On rest) = (new.pending.items ≡ []) × IsOnward (state_of old.progress) (state_of new.progress) × IsPrefix old.pending.items spare
CrossesKept old new spare (turn.Whole m rest) = ⊤
CrossesKept old new spare (turn.Wrong fault) = ⊤

-- an ear waits, or has refused the bytes, or is to be made anew
abbrev pub IsSettled : Hearing → Type 0
IsSettled h = IsWaiting h ⊎ ((fault : WireFault) × (h.progress.stage ≡ Shut fault)) ⊎ (h.progress.stage ≡ Over)

-- more bytes than a message has
abbrev pub most : ℕ
most = 1410334778
