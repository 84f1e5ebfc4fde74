-- A file that is one message, from its first byte to its last
use Rattle.std.specs.Prelude.{ℕ, List, [], ◌∷◌, ◌-◌, length, Result, Ok, Err}
use Rattle.hg_wire.specs.declared.message.Message.{Message}
use Rattle.hg_wire.specs.declared.message.Message.TheVariants.{Have, Rows}
use Rattle.hg_wire.specs.declared.message.Want.{Want}
use Rattle.hg_wire.specs.Outcome.{Outcome, Unfinished, Faulty, Finished}
use Rattle.hg_wire.specs.Reading.{read}
use Rattle.hg_exchange.specs.declared.message.MessageFault.{MessageFault}
use Rattle.hg_exchange.specs.declared.message.MessageFault.TheVariants.{Wire, Ended, Trailing}

-- what so many bytes are by what was read at their front: a message with nothing behind it
abbrev pub whole : ℕ → Outcome Message → Result Message MessageFault
whole count Unfinished = Err (Ended count)
whole count (Faulty fault) = Err (Wire fault)
whole count (Finished m []) = Ok m
whole count (Finished m (byte ∷ rest)) = Err (Trailing (count - length (byte ∷ rest)))

-- the message of this kind that the bytes are, or what is wrong with them
unfoldable pub message_of : Want → List ℕ → Result Message MessageFault
message_of want bytes = whole (length bytes) (read want bytes)

-- the names of a message, none of ROWS
abbrev pub names_in : Message → List (List ℕ)
names_in (Have names) = names
names_in (Rows parcel) = []
