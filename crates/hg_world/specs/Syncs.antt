-- Gossip as steps of a run: what one member's node takes from another's, and the event that it makes then.
-- SWIRLDS-TR-2016-01, section 3
use Rattle.std.specs.Prelude.{ℕ, ◌≡◌, List, [], ◌∷◌, ◌++◌, map, Option, Some, None}
use Rattle.hg_life.specs.declared.answers.SyncMade.{SyncMade}
use Rattle.hg_life.specs.declared.answers.SyncMade.TheVariants as sync_made
use Rattle.hg_life.specs.declared.answers.SyncReport.{SyncReport}
use Rattle.hg_life.specs.Gossip.{made_in_sync}
use Rattle.hg_life.specs.Signing.{accepts_by}
use Rattle.hg_life.specs.Verdict.{last_name}
use Rattle.hg_life.specs.NodeView.{NodeView, node_rows}
use Rattle.hg_gossip.specs.declared.gossip.Taken.{Taken}
use Rattle.hg_gossip.specs.Nodes.{Taking, lacked, pulling, taking, taking_of}
use Rattle.hg_world.specs.declared.step.Step.{Step}
use Rattle.hg_world.specs.declared.step.Step.TheVariants.{Make, Deliver}
use Rattle.hg_world.specs.World.{Secrets, WorldView, node_at}
use Rattle.hg_world.specs.Steps.{making_at, after_steps}

-- the bytes of the peer's rows whose names the taker lacks are delivered, in the peer's order
abbrev pub pull_steps : WorldView → ℕ → ℕ → List Step
pull_steps w taker peer = map (λ (bytes : List ℕ). Deliver taker bytes) (lacked (node_at w taker) (node_at w peer))

-- the name of the last event that the node made, if it made any
abbrev pub last_made : NodeView Secrets → Option (List ℕ)
last_made v = last_name v.start.own (node_rows v)

-- an event is made on this other-parent; none where there is no name
abbrev pub make_steps : ℕ → Option (List ℕ) → ℕ → List ℕ → List Step
make_steps m None time payload = []
make_steps m (Some other) time payload = Make m (other ∷ []) time payload ∷ []

-- a pull, and then an event on the peer's last one
abbrev pub sync_steps : WorldView → ℕ → ℕ → ℕ → List ℕ → List Step
sync_steps w taker peer time payload =
    pull_steps w taker peer ++ make_steps taker (last_made (node_at w peer)) time payload

-- the taker's node after a pull, and how many events it took and refused
abbrev pub pulled : WorldView → ℕ → ℕ → Taking Secrets
pulled w taker peer = pulling accepts_by (node_at w taker) (node_at w peer)

-- what comes of the event at the end of a sync
abbrev pub made_after : NodeView Secrets → Option (List ℕ) → ℕ → List ℕ → SyncMade
made_after v None time payload = sync_made.PeerBare
made_after v (Some other) time payload = made_in_sync (making_at v (other ∷ []) time payload)

-- what a sync reports
abbrev pub sync_report : WorldView → ℕ → ℕ → ℕ → List ℕ → SyncReport
sync_report w taker peer time payload = record {
  taken = (pulled w taker peer).counts.taken;
  refused = (pulled w taker peer).counts.refused;
  made = made_after (pulled w taker peer).node (last_made (node_at w peer)) time payload;
}

-- bytes that are delivered to a member's node, one after the other
abbrev pub deliver_steps : ℕ → List (List ℕ) → List Step
deliver_steps m events = map (λ (bytes : List ℕ). Deliver m bytes) events

-- they were, and so many were taken and refused
pub record HasTaken (old : WorldView) (m : ℕ) (events : List (List ℕ)) (counts : Taken) (new : WorldView) : Type 0 where
  pub after : new ≡ after_steps old (deliver_steps m events)
  pub counted : taking_of (node_at new m) counts ≡ taking accepts_by (node_at old m) events

-- the taker pulled from the peer: its counts, and the world and the taker's node then
pub record HasPulled (old : WorldView) (taker peer : ℕ) (taken : Taken) (new : WorldView) : Type 0 where
  pub counts : taken ≡ (pulled old taker peer).counts
  pub after : new ≡ after_steps old (pull_steps old taker peer)
  pub node : node_at new taker ≡ (pulled old taker peer).node

-- it synced with the peer
abbrev pub HasSynced : WorldView → ℕ → ℕ → ℕ → List ℕ → SyncReport → WorldView → Type 0
HasSynced old taker peer time payload report new =
    (report ≡ sync_report old taker peer time payload) × (new ≡ after_steps old (sync_steps old taker peer time payload))

-- an event was made on this other-parent, or refused; none where there is no name
abbrev pub HasMadeAfter : WorldView → ℕ → Option (List ℕ) → ℕ → List ℕ → SyncMade → WorldView → Type 0
HasMadeAfter old m other time payload made new =
    (made ≡ made_after (node_at old m) other time payload) × (new ≡ after_steps old (make_steps m other time payload))
