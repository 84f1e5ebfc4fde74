-- What came of the messages, in a node's whole history
use Rattle.std.specs.Prelude.{◌≡◌, ℕ, List, [], length, Some, slice_get}
use Rattle.std.specs.List.{AllByRecursion}
use Rattle.hg_model.specs.declared.row.Row.{Row}
use Rattle.hg_life.specs.History.Change.{Took}
use Rattle.hg_life.specs.NodeView.{NodeView}
use Rattle.hg_life.specs.Signing.{Accepts}
use Rattle.hg_mail.specs.declared.message.Message.{Message}
use Rattle.hg_board.specs.Seats.{SharedNode, SeatView}
use Rattle.hg_crowd.specs.Crowd.{IsEnded}
use Rattle.hg_storm.specs.declared.taking.RefusedMessage.{RefusedMessage}
use Rattle.hg_storm.specs.Fates.{AreHeld, AreRising, HasFates, IsOfMessage, Refuses}

-- each message is held or refused at its moment, and each row that was taken is that of a message
pub record EndsWithFates {V : Type 0} (accepts : V → Accepts) (p : SharedNode V) (node : NodeView V) (taken : List Message) (refused : List RefusedMessage) : Type 0 where
  pub held : AreHeld p node.history taken refused (length taken)
  pub refusals : AllByRecursion (Refuses accepts p node.history taken refused) refused
  pub once : AreRising 0 refused
  pub took : (q : ℕ) (row : Row) → slice_get node.history q ≡ Some (Took row) → IsOfMessage taken row

-- it is so where the node began without changes, and what others than the seat did to it are marks
abbrev pub FatesLast : Type 0 → Type 0
FatesLast V = (accepts : V → Accepts) (p : SharedNode V) (s : SeatView V) (node : NodeView V) (taken : List Message) (refused : List RefusedMessage) →
    p.start.history ≡ [] → IsEnded p s node → HasFates accepts p s taken refused → EndsWithFates accepts p node taken refused
