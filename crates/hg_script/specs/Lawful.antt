-- What each line of a script that was read keeps to
use Rattle.std.specs.Prelude.{◌≡◌, ◌≢◌, ◌<◌, ◌≤◌, ℕ, List, length, false, true, Option, None, Some, ⊤}
use Rattle.std.specs.List.{All, list_any}
use Rattle.std.specs.Str.{bytes_eq}
use Rattle.hg_life.specs.Members.{MemberList, has_node}
use Rattle.hg_life.specs.Spelling.{payload_limit}
use Rattle.hg_script.specs.declared.line.Gossip.{Gossip}
use Rattle.hg_script.specs.declared.line.Gossip.TheVariants.{Create, Sync, Pull, Join, Give}
use Rattle.hg_script.specs.declared.line.Source.{Source}
use Rattle.hg_script.specs.declared.line.Source.TheVariants.{Last, Forged}
use Rattle.hg_script.specs.declared.line.Part.{Part}
use Rattle.hg_script.specs.declared.line.Part.TheVariants as part
use Rattle.hg_script.specs.declared.line.Action.{Action}
use Rattle.hg_script.specs.declared.line.Action.TheVariants as action
use Rattle.hg_script.specs.declared.line.Line.{Line}
use Rattle.hg_life.specs.Workers.{worker_limit}
use Rattle.hg_script.specs.Argument.{AreFewLabels, AreLabels}
use Rattle.hg_script.specs.Table.{Above, Found}

-- the number is that of a member with a node
abbrev pub HasNode : MemberList → ℕ → Type 0
HasNode members m = has_node members m ≡ true

-- the payload of an event can be so long
abbrev pub IsShortPayload : List ℕ → Type 0
IsShortPayload payload = length payload ≤ payload_limit

-- the number is that of a worker
abbrev pub IsWorker : ℕ → Type 0
IsWorker w = w < worker_limit

abbrev pub IsGossip : MemberList → Gossip → Type 0
IsGossip members (Create member time payload) = HasNode members member × IsShortPayload payload
IsGossip members (Sync taker peer time payload) = HasNode members taker × HasNode members peer × (taker ≢ peer) × IsShortPayload payload
IsGossip members (Pull taker peer) = HasNode members taker × HasNode members peer × (taker ≢ peer)
IsGossip members (Join member others time payload) = HasNode members member × IsShortPayload payload × AreFewLabels others
IsGossip members (Give member label) = HasNode members member

abbrev pub IsSource : MemberList → Source → Type 0
IsSource members (Last member) = HasNode members member
IsSource members (Forged creator parents time payload) = IsShortPayload payload × AreLabels parents
IsSource members _ = ⊤

abbrev pub IsPart : MemberList → Part → Type 0
IsPart members (part.Gossip g) = IsGossip members g
IsPart members (part.Label s) = IsSource members s

-- the members that the action names have nodes, its payload fits, and its worker is one
abbrev pub IsLawful : MemberList → Action → Type 0
IsLawful members (action.Part p) = IsPart members p
IsLawful members (action.Freeze member worker) = HasNode members member × IsWorker worker
IsLawful members (action.Publish member worker) = HasNode members member × IsWorker worker
IsLawful members (action.Kept member) = HasNode members member
IsLawful members (action.Show member) = HasNode members member
IsLawful members (action.Names member) = HasNode members member

-- a worker's lines and the block as published are for a run without workers
abbrev pub IsWithWorkers : ℕ → Action → Type 0
IsWithWorkers workers (action.Freeze member worker) = workers ≡ 0
IsWithWorkers workers (action.Publish member worker) = workers ≡ 0
IsWithWorkers workers (action.Kept member) = workers ≡ 0
IsWithWorkers workers _ = ⊤

abbrev pub IsLine : MemberList → ℕ → Line → Type 0
IsLine members workers line = IsLawful members line.action × IsWithWorkers workers line.action

-- so is each line of these
abbrev pub HasLawful : MemberList → ℕ → Above → Type 0
HasLawful members workers above = All (IsLine members workers) above.lines

-- a member that makes a first event has a number below 128
abbrev pub IsLow : Action → Type 0
IsLow (action.Part (part.Gossip (Create member time payload))) = member < 128
IsLow _ = ⊤

-- the label to be made, if there is one, has none of these names
abbrev pub IsNew : List (List ℕ) → Option (List ℕ) → Type 0
IsNew labels None = ⊤
IsNew labels (Some name) = list_any (bytes_eq name) labels ≡ false

-- what a line below these lines is found to do
abbrev pub IsFound : MemberList → Above → Found → Type 0
IsFound members above found = IsLawful members found.action × IsLow found.action × IsNew above.labels found.label

-- the same, in a run with so many workers
abbrev pub IsAllowed : MemberList → ℕ → Above → Found → Type 0
IsAllowed members workers above found = IsFound members above found × IsWithWorkers workers found.action
