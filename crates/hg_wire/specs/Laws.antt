-- The laws of messages and of their reading
use Rattle.std.specs.Prelude.{◌≡◌, ℕ, ◌<◌, ◌≤◌, List, ◌∷◌, ◌++◌, length, drop, ⊤}
use Rattle.std.specs.Global.{Vec}
use Rattle.std.specs.List.{flat_map}
use Rattle.hg_wire.specs.declared.message.Want.{Want}
use Rattle.hg_wire.specs.declared.message.Message.{Message}
use Rattle.hg_wire.specs.declared.message.Fed.{Fed}
use Rattle.hg_wire.specs.declared.message.Fed.TheVariants.{More, Whole, Refused}
use Rattle.hg_wire.specs.Outcome.{Outcome, Unfinished, Faulty, Finished, IsStable}
use Rattle.hg_wire.specs.Reading.{read}
use Rattle.hg_wire.specs.Grammar.{AreBytes, Begins, IsMessage}

-- what is read is a message at the front of the bytes
abbrev pub ReadsAreMessages : Type 0
ReadsAreMessages = (w : Want) (bytes : List ℕ) (m : Message) (rest : List ℕ) → AreBytes bytes → read w bytes ≡ Finished m rest → Begins w bytes m rest

-- a message at the front of the bytes is read
abbrev pub MessagesAreRead : Type 0
MessagesAreRead = (w : Want) (bytes : List ℕ) (m : Message) (rest : List ℕ) → Begins w bytes m rest → read w bytes ≡ Finished m rest

-- no message begins another, of either kind
abbrev pub ArePrefixFree : Type 0
ArePrefixFree = (w v : Want) (a b x y : List ℕ) (m n : Message) → IsMessage w a m → IsMessage v b n → a ++ x ≡ b ++ y → (a ≡ b) × (m ≡ n)

-- more bytes change no message and no fault
abbrev pub ReadsStand : Type 0
ReadsStand = (w : Want) → IsStable (read w)

-- the answer is the outcome of the stream
abbrev pub Says : Outcome Message → Fed → Type 0
Says o More = o ≡ Unfinished
Says o (Whole m used) = (rest : List ℕ) × (o ≡ Finished m rest)
Says o (Refused fault) = o ≡ Faulty fault

-- its message is the one with which the stream begins, and no message is said of a stream that begins with none
abbrev pub IsFirst : Want → List ℕ → Fed → Type 0
IsFirst w stream More = (m : Message) (rest : List ℕ) → Begins w stream m rest → ⊥
IsFirst w stream (Whole m used) = (n : Message) (rest : List ℕ) → Begins w stream n rest → n ≡ m
IsFirst w stream (Refused fault) = (m : Message) (rest : List ℕ) → Begins w stream m rest → ⊥

-- the message ended with so many bytes of one of the pieces; the others of it stand behind, and the pieces after it
pub record EndsIn (w : Want) (pieces : List (Vec ℕ)) (m : Message) (used : ℕ) : Type 0 where
  pub before : List (Vec ℕ)
  pub piece : Vec ℕ
  pub after : List (Vec ℕ)
  pub whole : pieces ≡ before ++ piece ∷ after
  pub some : 0 < used
  pub within : used ≤ length piece.items
  pub behind : read w (flat_map (λ piece. piece.items) pieces) ≡ Finished m (drop used piece.items ++ flat_map (λ piece. piece.items) after)

abbrev pub Ends : Want → List (Vec ℕ) → Fed → Type 0
Ends w pieces More = ⊤
Ends w pieces (Whole m used) = EndsIn w pieces m used
Ends w pieces (Refused fault) = ⊤
