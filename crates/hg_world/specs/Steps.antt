-- A run step by step: what each step makes of the world, and what it answers. SWIRLDS-TR-2016-01, sections 2 to 4.
-- Publishing by workers, of rows that they froze before, is our own
use Rattle.std.specs.Prelude.{ℕ, ◌≡◌, ◌<◌, ◌≤◌, ◌⊎◌, List, [], ◌∷◌, ◌++◌, fold, length}
use Rattle.hg_life.specs.declared.answers.PutAnswer.{PutAnswer}
use Rattle.hg_life.specs.declared.answers.MakeAnswer.{MakeAnswer}
use Rattle.hg_model.specs.Links.{most_others}
use Rattle.hg_model.specs.Shares.{Share, whole}
use Rattle.hg_life.specs.Signing.{signature_by, accepts_by}
use Rattle.hg_life.specs.NodeView.{NodeView, with_changes, node_rows}
use Rattle.hg_life.specs.Calls.{put_answer, put_changes, make_answer, make_changes, publish_answer, publish_changes}
use Rattle.hg_node.specs.Laws.{signature_made}
use Rattle.hg_gossip.specs.Holding.{WouldSign, WouldTake, rules_alone, seen_whole}
use Rattle.hg_world.specs.declared.step.Step.{Step}
use Rattle.hg_world.specs.declared.step.Step.TheVariants.{Make, Deliver, Freeze, Publish}
use Rattle.hg_world.specs.declared.step.Reply.{Reply}
use Rattle.hg_world.specs.declared.step.Reply.TheVariants as reply
use Rattle.hg_world.specs.World.{Secrets, WorldView, node_at, frozen_by, with_node_at, with_frozen, IsMemberOf}
use Rattle.hg_life.specs.Workers.{worker_limit}

-- the signature under which the node makes such an event
abbrev pub own_signature : NodeView Secrets → List (List ℕ) → ℕ → List ℕ → List ℕ
own_signature v others time payload = signature_made (signature_by v.start.keys) v others time payload

-- what comes of making an event, and the node after it
abbrev pub making_at : NodeView Secrets → List (List ℕ) → ℕ → List ℕ → MakeAnswer
making_at v others time payload = make_answer v others time payload (own_signature v others time payload)

abbrev pub node_made : NodeView Secrets → List (List ℕ) → ℕ → List ℕ → NodeView Secrets
node_made v others time payload = with_changes v (make_changes v others time payload (own_signature v others time payload))

-- what comes of bytes that are put, and the node after them
abbrev pub putting_at : NodeView Secrets → List ℕ → PutAnswer
putting_at v bytes = put_answer accepts_by v bytes

abbrev pub node_put : NodeView Secrets → List ℕ → NodeView Secrets
node_put v bytes = with_changes v (put_changes accepts_by v bytes)

-- the node once it has published what a share decides in the first `len` rows
abbrev pub node_published : NodeView Secrets → ℕ → Share → NodeView Secrets
node_published v len share = with_changes v (publish_changes v len share)

-- how many witnesses a worker of member m's node marks when it publishes what a share decides in the rows that it froze last
abbrev pub publishing_by : WorldView → ℕ → ℕ → Share → ℕ
publishing_by w m worker share = publish_answer (node_at w m) (frozen_by w m worker) share

-- an event is made, or bytes come, or a worker freezes the rows, or publishes what a share decides in those that it froze
abbrev pub after_step : WorldView → Step → WorldView
after_step w (Make m others time payload) = with_node_at w m (node_made (node_at w m) others time payload)
after_step w (Deliver m bytes) = with_node_at w m (node_put (node_at w m) bytes)
after_step w (Freeze m worker) = with_frozen w m worker (length (node_rows (node_at w m)))
after_step w (Publish m worker share) = with_node_at w m (node_published (node_at w m) (frozen_by w m worker) share)

abbrev pub reply_to : WorldView → Step → Reply
reply_to w (Make m others time payload) = reply.Make (making_at (node_at w m) others time payload)
reply_to w (Deliver m bytes) = reply.Put (putting_at (node_at w m) bytes)
reply_to w (Freeze m worker) = reply.Frozen (length (node_rows (node_at w m)))
reply_to w (Publish m worker share) = reply.Published (publishing_by w m worker share)

-- the world after these steps, one after the other, and what they answer
abbrev pub after_steps : WorldView → List Step → WorldView
after_steps w steps = fold after_step w steps

abbrev pub replies_to : WorldView → List Step → List Reply
replies_to w [] = []
replies_to w (step ∷ steps) = reply_to w step ∷ replies_to (after_step w step) steps

-- the member whose node does it
abbrev pub actor : Step → ℕ
actor (Make m others time payload) = m
actor (Deliver m bytes) = m
actor (Freeze m worker) = m
actor (Publish m worker share) = m

-- at most four other-parents are named, and the worker is one
abbrev pub IsBounded : Step → Type 0
IsBounded (Make m others time payload) = length others ≤ most_others
IsBounded (Deliver m bytes) = Unit {0}
IsBounded (Freeze m worker) = worker < worker_limit
IsBounded (Publish m worker share) = worker < worker_limit

-- the step's node is there, and what it names is within its bounds
abbrev pub IsStepOf : WorldView → Step → Type 0
IsStepOf w step = IsMemberOf w (actor step) × IsBounded step

-- what a step answers and leaves
abbrev pub HasStepped : WorldView → Step → Reply → WorldView → Type 0
HasStepped old step answer new = (answer ≡ reply_to old step) × (new ≡ after_step old step)

-- the same of several
abbrev pub HasRun : WorldView → List Step → List Reply → WorldView → Type 0
HasRun old steps answers new = (answers ≡ replies_to old steps) × (new ≡ after_steps old steps)

-- the step takes memory: the node would sign the event, or accept it, or a worker publishes
abbrev pub NeedsMemory : WorldView → Step → Type 0
NeedsMemory w (Make m others time payload) = WouldSign (seen_whole (node_at w m)) others payload
NeedsMemory w (Deliver m bytes) = WouldTake (rules_alone accepts_by) (seen_whole (node_at w m)) bytes
NeedsMemory w (Freeze m worker) = ⊥
NeedsMemory w (Publish m worker share) = Unit {0}

-- the first of these steps were done, and there was no memory for the next one
pub record RanFirst (old : WorldView) (steps : List Step) (new : WorldView) : Type 0 where
  pub first : List Step
  pub next : Step
  pub rest : List Step
  pub whole : steps ≡ first ++ next ∷ rest
  pub after : new ≡ after_steps old first
  pub needs : NeedsMemory new next

-- none of them was, for want of memory to begin, or the first of them were
abbrev pub RanSome : WorldView → List Step → WorldView → Type 0
RanSome old steps new = (new ≡ old) ⊎ RanFirst old steps new

-- a member's node is settled: worker 0 freezes all rows and publishes all that they decide
abbrev pub settle_steps : ℕ → List Step
settle_steps m = Freeze m 0 ∷ Publish m 0 whole ∷ []
