-- What a line of a script is: a list of steps of a run, and what it prints
use Rattle.std.specs.Prelude.{ℕ, ◌<◌, ◌≤◌, ⊤, List, [], ◌∷◌, ◌++◌, length}
use Rattle.hg_outcome.specs.declared.outcome.Printed.{Printed}
use Rattle.hg_outcome.specs.declared.outcome.Printed.TheVariants as printed
use Rattle.hg_outcome.specs.declared.outcome.Block.{Block}
use Rattle.hg_life.specs.Members.{MemberList}
use Rattle.hg_model.specs.Links.{most_others}
use Rattle.hg_model.specs.Shares.{whole}
use Rattle.hg_life.specs.Spelling.{payload_limit}
use Rattle.hg_life.specs.Signing.{secrets_of}
use Rattle.hg_outcome.specs.Ledger.{block_of, marked_block}
use Rattle.hg_life.specs.NodeView.{NodeView, node_rows, node_marks}
use Rattle.hg_life.specs.Calls.{publish_answer}
use Rattle.hg_script.specs.declared.line.Gossip.{Gossip}
use Rattle.hg_script.specs.declared.line.Gossip.TheVariants.{Create, Sync, Pull, Join, Give}
use Rattle.hg_script.specs.declared.line.Source.{Source}
use Rattle.hg_script.specs.declared.line.Source.TheVariants.{Last, Forged}
use Rattle.hg_script.specs.declared.line.Part.{Part}
use Rattle.hg_script.specs.declared.line.Part.TheVariants as part
use Rattle.hg_script.specs.declared.line.Action.{Action}
use Rattle.hg_script.specs.declared.line.Action.TheVariants as action
use Rattle.hg_script.specs.declared.line.Line.{Line}
use Rattle.hg_script.specs.Argument.{AreLabels}
use Rattle.hg_world.specs.declared.step.Step.{Step}
use Rattle.hg_world.specs.declared.step.Step.TheVariants as step
use Rattle.hg_world.specs.World.{WorldView, node_at, rows_at, frozen_by}
use Rattle.hg_life.specs.Workers.{worker_limit}
use Rattle.hg_world.specs.Steps.{making_at, putting_at, settle_steps}
use Rattle.hg_world.specs.Syncs.{pull_steps, pulled, sync_report, sync_steps}
use Rattle.hg_play.specs.Labels.{bytes_at, names_of_labels, source_bytes}
use Rattle.hg_play.specs.Tape.{TapeView, tape}

-- the steps of a line of gossip, in this world and with these labels
abbrev pub gossip_steps : WorldView → List (List ℕ) → Gossip → List Step
gossip_steps w labels (Create m time payload) = step.Make m [] time payload ∷ []
gossip_steps w labels (Sync taker peer time payload) = sync_steps w taker peer time payload
gossip_steps w labels (Pull taker peer) = pull_steps w taker peer
gossip_steps w labels (Join m others time payload) = step.Make m (names_of_labels labels others) time payload ∷ []
gossip_steps w labels (Give m label) = step.Deliver m (bytes_at labels label) ∷ []

-- the steps of a line. A shown node is settled first: worker 0 freezes its rows and publishes all that they decide
abbrev pub action_steps : WorldView → List (List ℕ) → Action → List Step
action_steps w labels (action.Part (part.Gossip g)) = gossip_steps w labels g
action_steps w labels (action.Part (part.Label source)) = []
action_steps w labels (action.Freeze m worker) = step.Freeze m worker ∷ []
action_steps w labels (action.Publish m worker) = step.Publish m worker whole ∷ []
action_steps w labels (action.Kept m) = []
action_steps w labels (action.Show m) = settle_steps m
action_steps w labels (action.Names m) = settle_steps m

-- what is printed of a line of gossip, under the line's number
abbrev pub gossip_printed : WorldView → List (List ℕ) → ℕ → Gossip → Printed
gossip_printed w labels number (Create m time payload) = printed.Create number (making_at (node_at w m) [] time payload)
gossip_printed w labels number (Sync taker peer time payload) = printed.Sync number (sync_report w taker peer time payload)
gossip_printed w labels number (Pull taker peer) = printed.Pull number (pulled w taker peer).counts.taken (pulled w taker peer).counts.refused
gossip_printed w labels number (Join m others time payload) =
    printed.Join number (making_at (node_at w m) (names_of_labels labels others) time payload)
gossip_printed w labels number (Give m label) = printed.Give number (putting_at (node_at w m) (bytes_at labels label))

-- the block of a member's node by the marks that it has published
abbrev pub kept_block : {K : Type 0} → MemberList → ℕ → NodeView K → Block
kept_block members m v = marked_block members m (node_rows v) (node_marks v)

-- what is printed of a line. A shown block is that of the node's graph, by the procedures computed whole
abbrev pub action_printed : MemberList → WorldView → List (List ℕ) → ℕ → Action → List Printed
action_printed members w labels number (action.Part (part.Gossip g)) = gossip_printed w labels number g ∷ []
action_printed members w labels number (action.Part (part.Label source)) = []
action_printed members w labels number (action.Freeze m worker) = printed.Freeze number (length (rows_at w m)) ∷ []
action_printed members w labels number (action.Publish m worker) =
    printed.Publish number (publish_answer (node_at w m) (frozen_by w m worker) whole) ∷ []
action_printed members w labels number (action.Kept m) = printed.Block (kept_block members m (node_at w m)) ∷ []
action_printed members w labels number (action.Show m) = printed.Block (block_of members m (rows_at w m)) ∷ []
action_printed members w labels number (action.Names m) = printed.Names (block_of members m (rows_at w m)) ∷ []

-- the labels after a line
abbrev pub action_labels : MemberList → WorldView → List (List ℕ) → Action → List (List ℕ)
action_labels members w labels (action.Part (part.Label source)) = labels ++ source_bytes (secrets_of members) w labels source ∷ []
action_labels members w labels _ = labels

-- the labels and all that was printed after a line
abbrev pub action_tape : MemberList → WorldView → TapeView → ℕ → Action → TapeView
action_tape members w t number a = tape (action_labels members w t.labels a) (t.printed ++ action_printed members w t.labels number a)

-- the members are below this number
abbrev pub IsGossipBelow : ℕ → Gossip → Type 0
IsGossipBelow n (Create m time payload) = m < n
IsGossipBelow n (Sync taker peer time payload) = (taker < n) × (peer < n)
IsGossipBelow n (Pull taker peer) = (taker < n) × (peer < n)
IsGossipBelow n (Join m others time payload) = (m < n) × (length others ≤ most_others)
IsGossipBelow n (Give m label) = m < n

-- so is the one whose event is named; the payload of an event that is forged is not too long, nor are its other-parents too many
abbrev pub IsSourceBelow : ℕ → Source → Type 0
IsSourceBelow n (Last m) = m < n
IsSourceBelow n (Forged m parents time payload) = (length payload ≤ payload_limit) × AreLabels parents
IsSourceBelow n _ = ⊤

abbrev pub IsPartBelow : ℕ → Part → Type 0
IsPartBelow n (part.Gossip g) = IsGossipBelow n g
IsPartBelow n (part.Label source) = IsSourceBelow n source

-- so are the action's, and its worker is one
abbrev pub IsBelow : ℕ → Action → Type 0
IsBelow n (action.Part p) = IsPartBelow n p
IsBelow n (action.Freeze m worker) = (m < n) × (worker < worker_limit)
IsBelow n (action.Publish m worker) = (m < n) × (worker < worker_limit)
IsBelow n (action.Kept m) = m < n
IsBelow n (action.Show m) = m < n
IsBelow n (action.Names m) = m < n

abbrev pub IsLineBelow : ℕ → Line → Type 0
IsLineBelow n line = IsBelow n line.action

-- the line of this number that does this
abbrev pub part_line : ℕ → Part → Line
part_line number p = record { number = number; action = action.Part p }
