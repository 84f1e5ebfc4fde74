-- What a member's node says and takes once a script was played
use Rattle.std.specs.Prelude.{ℕ, ◌≡◌, List, [], ◌∷◌}
use Rattle.hg_gossip.specs.declared.gossip.Taken.{Taken}
use Rattle.hg_gossip.specs.Gossip.{TakesAll}
use Rattle.hg_gossip.specs.Holding.{Rules, rules_alone, seen_whole}
use Rattle.hg_gossip.specs.Refusals.{HoldsUnlessRefused}
use Rattle.hg_life.specs.Members.{MemberList, names_of}
use Rattle.hg_life.specs.NodeView.{IsNode, NodeView, node_rows}
use Rattle.hg_life.specs.Signing.{accepts_by}
use Rattle.hg_model.specs.declared.row.Row.{Row}
use Rattle.hg_outcome.specs.declared.outcome.Outcome.{Outcome}
use Rattle.hg_outcome.specs.declared.outcome.Printed.TheVariants.{Block}
use Rattle.hg_outcome.specs.Ledger.{block_of}
use Rattle.hg_play.specs.Play.{played_world}
use Rattle.hg_prefix.specs.Chains.{HaveEqualRows}
use Rattle.hg_script.specs.declared.line.Line.{Line}
use Rattle.hg_wire.specs.declared.message.Message.{Message}
use Rattle.hg_wire.specs.declared.message.Want.TheVariants.{Have, Rows}
use Rattle.hg_wire.specs.Exchange.{AreHeldIn, answer_of, asked_of, rows_in}
use Rattle.hg_wire.specs.Grammar.{IsMessage}
use Rattle.hg_world.specs.World.{Secrets, node_at}
use Rattle.hg_exchange.specs.declared.exchange.Took.{Took}
use Rattle.hg_exchange.specs.Messages.{names_in}
use Rattle.hg_exchange.specs.Text.{took_text}

-- the node of a member, once the lines were played and all nodes were settled
abbrev pub played_node : MemberList → List Line → ℕ → NodeView Secrets
played_node members lines own = node_at (played_world members lines) own

-- nobody but the one who plays calls it
abbrev pub rules : Rules Secrets
rules = rules_alone accepts_by

-- these rows were put to the node v, one after the other, and left this node and these counts
abbrev pub TakesRows : NodeView Secrets → List (List ℕ) → NodeView Secrets → Taken → Type 0
TakesRows v events w counts = TakesAll rules (seen_whole v) events (seen_whole w) counts

-- Where the message is a peer's answer to names that the node holds, each row of the peer is held by its name then or was
-- refused at its turn, if the peer is a node and names do not collide; all are held where none was refused
abbrev pub HoldsAnswer : (v : NodeView Secrets) (m : Message) (w : NodeView Secrets) (counts : Taken) → TakesRows v (rows_in m) w counts → Type 0
HoldsAnswer v m w counts takes = (peer : NodeView Secrets) (names : List (List ℕ)) →
    IsNode accepts_by peer → HaveEqualRows (node_rows v) (node_rows peer) → AreHeldIn (node_rows v) names →
    m ≡ answer_of names peer → HoldsUnlessRefused rules (seen_whole v) (rows_in m) (seen_whole w) counts takes (node_rows peer)

-- the text is what the node asks, and what it answers to the message
abbrev pub IsAsking : NodeView Secrets → List ℕ → Type 0
IsAsking v text = IsMessage Have text (asked_of v)

abbrev pub IsAnswering : NodeView Secrets → Message → List ℕ → Type 0
IsAnswering v m text = IsMessage Rows text (answer_of (names_in m) v)

-- the block of a member's node with these rows, by its graph's own fame, with the members' names
abbrev pub shown : MemberList → ℕ → List Row → Outcome
shown members own G = record { names = names_of members; printed = Block (block_of members own G) ∷ [] }

-- what came of a message that the node took
pub record IsTaking (members : MemberList) (v : NodeView Secrets) (m : Message) (took : Took) : Type 0 where
  pub after : NodeView Secrets
  pub takes : TakesRows v (rows_in m) after took.counts
  pub holds : HoldsAnswer v m after took.counts takes
  pub outcome : took.outcome ≡ shown members v.start.own (node_rows after)

-- and the text of it
abbrev pub IsTakingText : MemberList → NodeView Secrets → Message → List ℕ → Type 0
IsTakingText members v m text = (took : Took) × IsTaking members v m took × (text ≡ took_text took)
