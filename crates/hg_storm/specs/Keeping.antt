-- Calls through a seat that take no message: what came of those that were taken stands
use Rattle.std.specs.Prelude.{ℕ, ◌≡◌, ◌≤◌, Bool, true, false, List, ◌++◌, length, Option, Some, None, count_by, slice_get, take}
use Rattle.std.specs.List.{AllByRecursion}
use Rattle.hg_life.specs.declared.answers.MakeAnswer.{MakeAnswer}
use Rattle.hg_life.specs.History.{Change}
use Rattle.hg_life.specs.History.Change.{Took, Made, Marked}
use Rattle.hg_life.specs.Signing.{Accepts}
use Rattle.hg_mail.specs.declared.message.Message.{Message}
use Rattle.hg_board.specs.Seats.{SharedNode, SeatView}
use Rattle.hg_board.specs.Calls.{SeatMakesNext, SeatWaits}
use Rattle.hg_crowd.specs.Crowd.{IsSeat}
use Rattle.hg_storm.specs.declared.taking.RefusedMessage.{RefusedMessage}
use Rattle.hg_storm.specs.Fates.{HasFates}

-- the keys of a node: the members' secrets
abbrev pub Secrets : Type 0
Secrets = List (List ℕ)

-- whichever messages were taken
abbrev pub KeepsFates : {V : Type 0} → (V → Accepts) → SharedNode V → SeatView V → SeatView V → Type 0
KeepsFates accepts p old new = (taken : List Message) (refused : List RefusedMessage) → HasFates accepts p old taken refused → HasFates accepts p new taken refused

-- so does a call that added nothing
abbrev pub WaitingKeepsFates : Type 0 → Type 0
WaitingKeepsFates V = (accepts : V → Accepts) (p : SharedNode V) (old new : SeatView V) → SeatWaits accepts p old new → KeepsFates accepts p old new

-- and one that made the next row, or none
abbrev pub MakingKeepsFates : Type 0 → Type 0
MakingKeepsFates V = (accepts : V → Accepts) (p : SharedNode V) (old new : SeatView V) (time : ℕ) (made : Option MakeAnswer) →
    SeatMakesNext accepts p old time new made → KeepsFates accepts p old new

-- what is so of every seat of the node stands
abbrev pub KeepsSeat : {V : Type 0} → (V → Accepts) → SharedNode V → SeatView V → SeatView V → Type 0
KeepsSeat accepts p old new = IsSeat accepts p old → IsSeat accepts p new

abbrev pub is_made : Option Change → Bool
is_made (Some (Made row)) = true
is_made (Some (Took row)) = false
is_made (Some (Marked len share)) = false
is_made None = false

-- at how many of these positions of a history a row was made
abbrev pub made_among : List Change → List ℕ → ℕ
made_among history positions = count_by (λ q. is_made (slice_get history q)) positions

-- how many of a seat's own changes made a row, of all and of those among the first ones of the history
abbrev pub rows_made : {V : Type 0} → SeatView V → ℕ
rows_made s = made_among s.seen s.mine

abbrev pub rows_made_in : {V : Type 0} → SeatView V → ℕ → ℕ
rows_made_in s at = made_among (take at s.seen) s.mine

-- what its calls added comes later than all that it had seen, and is no row that they made
pub record AddsNoRow {V : Type 0} (old new : SeatView V) : Type 0 where
  pub more : List ℕ
  pub mine : new.mine ≡ old.mine ++ more
  pub later : AllByRecursion (λ q. length old.seen ≤ q) more
  pub rows : (at : ℕ) → rows_made_in new at ≡ rows_made_in old at
