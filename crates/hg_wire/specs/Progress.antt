-- How far a message was read, and what the bytes to come then mean
use Rattle.std.specs.Prelude.{ℕ, zero, suc, Bool, true, false, List, [], ◌∷◌, ◌++◌, length}
use Rattle.hg_wire.specs.declared.message.Want.{Want}
use Rattle.hg_wire.specs.declared.message.Want.TheVariants as want
use Rattle.hg_wire.specs.declared.message.Message.{Message}
use Rattle.hg_wire.specs.declared.message.Message.TheVariants.{Have, Rows}
use Rattle.hg_wire.specs.declared.progress.Stage.{Stage}
use Rattle.hg_wire.specs.declared.progress.Stage.TheVariants.{AtHead, AtName, AtRow, AtLast, Shut, Over}
use Rattle.hg_wire.specs.Outcome.{Faulty, Finished, Reader, ◌>>=◌}
use Rattle.hg_wire.specs.Reading.{head_field, last_field, many, name_field, parcel_of, row_field}

-- the place in the message, and what was read before it
pub record State : Type 0 where
  pub want : Want
  pub stage : Stage
  pub names : List (List ℕ)
  pub rows : List (List ℕ)

-- nothing was read yet
abbrev pub start : Want → State
start w = record { want = w; stage = AtHead; names = []; rows = [] }

-- at the place a field is still to come
abbrev pub is_open : Stage → Bool
is_open AtHead = true
is_open (AtName k) = true
is_open (AtRow k) = true
is_open AtLast = true
is_open (Shut fault) = false
is_open Over = false

-- what a field leads to: a later place, or the whole message
pub data Next : Type 0 where
  Into : State → Next
  Done : Message → Next

-- so many names or rows follow the head
abbrev pub after_count : State → Want → ℕ → Next
after_count s want.Have zero = Done (Have s.names)
after_count s want.Have (suc k) = Into (record s { stage = AtName k })
after_count s want.Rows zero = Into (record s { stage = AtLast })
after_count s want.Rows (suc k) = Into (record s { stage = AtRow k })

-- a name was read, and so many follow
abbrev pub after_name : State → ℕ → List ℕ → Next
after_name s zero name = Done (Have (s.names ++ name ∷ []))
after_name s (suc k) name = Into (record s { stage = AtName k; names = s.names ++ name ∷ [] })

-- a row was, and so many follow
abbrev pub after_row : State → ℕ → List ℕ → Next
after_row s zero row = Into (record s { stage = AtLast; rows = s.rows ++ row ∷ [] })
after_row s (suc k) row = Into (record s { stage = AtRow k; rows = s.rows ++ row ∷ [] })

-- the field at this place
unfoldable pub field_at : State → Stage → Reader Next
field_at s AtHead bytes = head_field s.want bytes >>= (λ n rest. Finished (after_count s s.want n) rest)
field_at s (AtName k) bytes = name_field (length s.names) bytes >>= (λ name rest. Finished (after_name s k name) rest)
field_at s (AtRow k) bytes = row_field (length s.rows) bytes >>= (λ row rest. Finished (after_row s k row) rest)
field_at s AtLast bytes = last_field bytes >>= (λ last rest. Finished (Done (Rows (parcel_of s.rows last))) rest)
field_at s (Shut fault) bytes = Faulty fault
field_at s Over bytes = Finished (Done (Have [])) bytes

abbrev pub field : State → Reader Next
field s = field_at s s.stage

-- so many names or rows behind those that were read, and the message's end
unfoldable pub body_on : State → Want → ℕ → Reader Message
body_on s want.Have n bytes = many name_field (length s.names) n bytes >>= (λ names rest. Finished (Have (s.names ++ names)) rest)
body_on s want.Rows n bytes =
    many row_field (length s.rows) n bytes >>= (λ rows rest. last_field rest >>= (λ last rest. Finished (Rows (parcel_of (s.rows ++ rows) last)) rest))

-- what is still to be read from this place on: a fault that was met stands, and behind the whole message there is nothing
unfoldable pub rest_at : State → Stage → Reader Message
rest_at s AtHead bytes = head_field s.want bytes >>= body_on s s.want
rest_at s (AtName k) bytes = body_on s want.Have (suc k) bytes
rest_at s (AtRow k) bytes = body_on s want.Rows (suc k) bytes
rest_at s AtLast bytes = last_field bytes >>= (λ last rest. Finished (Rows (parcel_of s.rows last)) rest)
rest_at s (Shut fault) bytes = Faulty fault
rest_at s Over bytes = Finished (Have []) bytes

abbrev pub rest_of : State → Reader Message
rest_of s = rest_at s s.stage

-- what is to be read behind a field
abbrev pub finish : Next → Reader Message
finish (Into s) bytes = rest_of s bytes
finish (Done m) bytes = Finished m bytes
