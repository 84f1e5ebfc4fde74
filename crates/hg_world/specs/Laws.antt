-- What holds of every world, as public functions state it
use Rattle.std.specs.Prelude.{ℕ, ◌≡◌, ◌++◌, ◌<◌, ◌^◌, List, get_or, length}
use Rattle.std.specs.List.{AllByRecursion}
use Rattle.hg_life.specs.History.{Change}
use Rattle.hg_runs.specs.Safety.{IsSafe}
use Rattle.hg_world.specs.declared.step.Step.{Step}
use Rattle.hg_world.specs.declared.step.Step.TheVariants.{Make, Deliver, Freeze, Publish}
use Rattle.hg_world.specs.World.{WorldView, IsMemberOf, node_at, run_of, with_node_at}
use Rattle.hg_world.specs.Steps.{IsStepOf, after_steps}
use Rattle.hg_world.specs.Parts.{HaveEvents, IsWorld}
use Rattle.hg_world.specs.Syncs.{pull_steps, pulled}

-- the second is the first with more behind it
abbrev pub Grows : List Change → List Change → Type 0
Grows before after = (more : List Change) × (after ≡ before ++ more)

-- there are as many sites as before
abbrev pub StepsKeepSites : Type 0
StepsKeepSites = (w : WorldView) (steps : List Step) → length (after_steps w steps).sites ≡ length w.sites

-- steps only add to the history of each node
abbrev pub StepsOnlyAdd : Type 0
StepsOnlyAdd = (w : WorldView) (steps : List Step) (m : ℕ) → IsMemberOf w m → Grows (node_at w m).history (node_at (after_steps w steps) m).history

-- and leave the members and the coin period
abbrev pub StepsKeepMembers : Type 0
StepsKeepMembers = (w : WorldView) (steps : List Step) → ((after_steps w steps).members ≡ w.members) × ((after_steps w steps).coin ≡ w.coin)

-- a pull sets the node of the taker
abbrev pub PullsSetOneNode : Type 0
PullsSetOneNode = (w : WorldView) (taker peer : ℕ) → IsMemberOf w taker → after_steps w (pull_steps w taker peer) ≡ with_node_at w taker (pulled w taker peer).node

-- the numbers and bytes of the step are within their ranges
abbrev pub HasRange : Step → Type 0
HasRange (Make m others time payload) = time < 2 ^ 64
HasRange (Deliver m bytes) = (i : ℕ) → get_or bytes i 0 < 256
HasRange (Freeze m worker) = Unit {0}
HasRange (Publish m worker share) = Unit {0}

-- a lawful world is left lawful by any steps of its members
abbrev pub StepsStayLawful : Type 0
StepsStayLawful = (w : WorldView) (steps : List Step) → IsWorld w → AllByRecursion (IsStepOf w) steps → AllByRecursion HasRange steps → IsWorld (after_steps w steps)

-- the rows of the nodes of a lawful world are events
abbrev pub WorldsHaveEvents : Type 0
WorldsHaveEvents = (w : WorldView) → IsWorld w → HaveEvents w

-- of a lawful world's nodes the orders are safe
abbrev pub WorldsAreSafe : Type 0
WorldsAreSafe = (w : WorldView) → IsWorld w → IsSafe w.members w.coin (run_of w)
