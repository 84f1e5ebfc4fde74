-- Nodes that differ in marks alone: what steps answer and leave but for marks is a function of what the nodes began with
-- and of their rows
use Rattle.std.specs.Prelude.{ℕ, ◌≡◌, ⊤, List, length}
use Rattle.hg_model.specs.Shares.{Share}
use Rattle.hg_life.specs.NodeView.{NodeView, node_rows}
use Rattle.hg_world.specs.declared.step.Step.{Step}
use Rattle.hg_world.specs.declared.step.Step.TheVariants.{Publish}
use Rattle.hg_world.specs.World.{Secrets, WorldView, node_at}
use Rattle.hg_world.specs.Steps.{after_step, making_at, node_made, node_published, node_put, putting_at, reply_to}
use Rattle.hg_world.specs.Syncs.{last_made, pull_steps, pulled, sync_report, sync_steps}

-- the nodes began alike and have the same rows, whatever is marked
pub record AreAlike (v u : NodeView Secrets) : Type 0 where
  pub start : v.start ≡ u.start
  pub rows : node_rows v ≡ node_rows u

-- bytes that are put: the same answer, and the nodes are alike after them
abbrev pub PutAlike : NodeView Secrets → NodeView Secrets → List ℕ → Type 0
PutAlike v u bytes = (putting_at v bytes ≡ putting_at u bytes) × AreAlike (node_put v bytes) (node_put u bytes)

-- an event that is made
abbrev pub MadeAlike : NodeView Secrets → NodeView Secrets → List (List ℕ) → ℕ → List ℕ → Type 0
MadeAlike v u others time payload =
    (making_at v others time payload ≡ making_at u others time payload) × AreAlike (node_made v others time payload) (node_made u others time payload)

-- so are they after all calls
pub record StayAlike (v u : NodeView Secrets) : Type 0 where
  pub put : (bytes : List ℕ) → PutAlike v u bytes
  pub made : (others : List (List ℕ)) (time : ℕ) (payload : List ℕ) → MadeAlike v u others time payload
  pub published : (len : ℕ) (share : Share) → AreAlike (node_published v len share) u
  pub last : last_made v ≡ last_made u

-- the nodes of both worlds are alike, one by one
pub record WorldsAlike (w v : WorldView) : Type 0 where
  pub count : length w.sites ≡ length v.sites
  pub nodes : (m : ℕ) → AreAlike (node_at w m) (node_at v m)

-- a step answers alike, unless it tells how many witnesses it marked
abbrev pub AnswersAlike : WorldView → WorldView → Step → Type 0
AnswersAlike w v (Publish m worker share) = ⊤
AnswersAlike w v step = reply_to w step ≡ reply_to v step

-- so does gossip: its steps are the same, and so is what it reports
pub record GossipAlike (w v : WorldView) (taker peer : ℕ) : Type 0 where
  pub pull : pull_steps w taker peer ≡ pull_steps v taker peer
  pub counts : (pulled w taker peer).counts ≡ (pulled v taker peer).counts
  pub sync : (time : ℕ) (payload : List ℕ) → sync_steps w taker peer time payload ≡ sync_steps v taker peer time payload
  pub report : (time : ℕ) (payload : List ℕ) → sync_report w taker peer time payload ≡ sync_report v taker peer time payload

abbrev pub StepsNeedRowsAlone : Type 0
StepsNeedRowsAlone = (w v : WorldView) (step : Step) → WorldsAlike w v → WorldsAlike (after_step w step) (after_step v step) × AnswersAlike w v step

abbrev pub NodesNeedRowsAlone : Type 0
NodesNeedRowsAlone = (v u : NodeView Secrets) → AreAlike v u → StayAlike v u

abbrev pub GossipNeedsRowsAlone : Type 0
GossipNeedsRowsAlone = (w v : WorldView) (taker peer : ℕ) → WorldsAlike w v → GossipAlike w v taker peer
