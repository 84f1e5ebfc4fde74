-- What is said by the messages of two nodes, and what a taker has then. SWIRLDS-TR-2016-01, section 3
use Rattle.std.specs.Prelude.{◌≡◌, ℕ, ◌≤◌, true, List, [], ◌++◌}
use Rattle.std.specs.List.{AllByRecursion}
use Rattle.hg_io.specs.Bytes.{Appends, AppendsPart}
use Rattle.hg_io.specs.Faults.{Rose}
use Rattle.hg_io.specs.declared.sink.Sink as sink
use Rattle.hg_model.specs.declared.row.Row.{Row}
use Rattle.hg_model.specs.Held.{is_held}
use Rattle.hg_model.specs.Orders.{IsPrefix}
use Rattle.hg_life.specs.Signing.{Accepts}
use Rattle.hg_life.specs.NodeView.{IsNode, NodeView, node_rows}
use Rattle.hg_prefix.specs.Chains.{HaveEqualRows}
use Rattle.hg_node.specs.Beyond.{beyond_of, tips_of}
use Rattle.hg_gossip.specs.declared.gossip.Taken.{Taken}
use Rattle.hg_gossip.specs.Gossip.{TakesAll}
use Rattle.hg_gossip.specs.Holding.{Rules, Seen}
use Rattle.hg_gossip.specs.Refusals.{HoldsUnlessRefused}
use Rattle.hg_wire.specs.declared.exchange.Delivery.{Delivery}
use Rattle.hg_wire.specs.declared.exchange.Delivery.TheVariants.{Sent, Failed}
use Rattle.hg_wire.specs.declared.message.Want.TheVariants as want
use Rattle.hg_wire.specs.declared.message.Message.{Message}
use Rattle.hg_wire.specs.declared.message.Message.TheVariants.{Have, Rows}
use Rattle.hg_wire.specs.Outcome.{Finished}
use Rattle.hg_wire.specs.Reading.{read}
use Rattle.hg_wire.specs.Grammar.{Fits, item_count, message_bytes}

-- what came of writing a message to a sink K: it was written whole, with so many names or rows, or a front of it and not
-- all, with a fault that was counted. No count falls.
abbrev pub Delivers : {S : Type 0} → sink.Ghosts S → S → S → Message → Delivery → Type 0
Delivers K before after m (Sent n) =
    (n ≡ item_count m) × Appends (K.written before) (K.written after) (message_bytes m) × (K.faults before ≤ K.faults after)
Delivers K before after m Failed =
    AppendsPart (K.written before) (K.written after) (message_bytes m) × Rose (K.faults before) (K.faults after) × (K.faults before ≤ K.faults after)

-- what a node says that asks, and what a peer answers to these names
abbrev pub asked_of : {K : Type 0} → NodeView K → Message
asked_of v = Have (tips_of v)

abbrev pub answer_of : {L : Type 0} → List (List ℕ) → NodeView L → Message
answer_of names v = Rows (beyond_of names v)

-- both fit into messages, of every node
abbrev pub AsksFit : (K : Type 0) → Type 0
AsksFit K = (accepts : K → Accepts) (v : NodeView K) → IsNode accepts v → Fits want.Have (asked_of v)

abbrev pub AnswersFit : (L : Type 0) → Type 0
AnswersFit L = (accepts : L → Accepts) (names : List (List ℕ)) (v : NodeView L) → IsNode accepts v → Fits want.Rows (answer_of names v)

-- the rows of a message, none of HAVE
abbrev pub rows_in : Message → List (List ℕ)
rows_in (Have names) = []
rows_in (Rows parcel) = parcel.rows

-- these names are held among these rows
abbrev pub AreHeldIn : List Row → List (List ℕ) → Type 0
AreHeldIn G names = AllByRecursion (λ (name : List ℕ). is_held G name ≡ true) names

-- the names that are read of a stream which begins with what a node says that asks are held by it, and later on too
abbrev pub AsksNameHeld : (K : Type 0) → Type 0
AsksNameHeld K = (accepts : K → Accepts) (v w : NodeView K) (names : List (List ℕ)) (more rest : List ℕ) → IsNode accepts v → IsPrefix (node_rows v) (node_rows w) →
    read want.Have (message_bytes (asked_of v) ++ more) ≡ Finished (Have names) rest → AreHeldIn (node_rows w) names

-- once the message that is read of a stream was taken which begins with a peer's answer to names that the taker holds, each
-- row of the peer is held by its name or was refused at its turn, where both are nodes and names do not collide; all are held
-- where none was refused
abbrev pub ExchangesHold : (K L : Type 0) → Type 0
ExchangesHold K L = (rules : Rules K) (accepts : L → Accepts) (old new : Seen K) (peer : Seen L) (names : List (List ℕ)) (m : Message) (more rest : List ℕ) (taken : Taken) →
    IsNode rules.accepts old.node → IsNode accepts peer.node → HaveEqualRows (node_rows old.node) (node_rows peer.node) → AreHeldIn (node_rows old.node) names →
    read want.Rows (message_bytes (answer_of names peer.node) ++ more) ≡ Finished m rest →
    (takes : TakesAll rules old (rows_in m) new taken) → HoldsUnlessRefused rules old (rows_in m) new taken takes (node_rows peer.node)
