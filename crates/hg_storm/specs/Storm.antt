-- A storm: all members' turns between threads, and then what the nodes pull from each other
use Rattle.std.specs.Prelude.{ℕ, ◌≡◌, ◌<◌, List, [], ◌∷◌, ◌++◌, fold, get_or, length, map}
use Rattle.std.specs.Global.{Vec}
use Rattle.hg_life.specs.Members.{MemberList, stakes_of}
use Rattle.hg_life.specs.NodeView.{NodeView, start_of}
use Rattle.hg_life.specs.Signing.{secrets_of}
use Rattle.hg_runs.specs.Safety.{IsSafe}
use Rattle.hg_mail.specs.Mailboxes.{PortView}
use Rattle.hg_board.specs.Seats.{SharedNode}
use Rattle.hg_world.specs.World.{Secrets, WorldView, new_world, nodes_of, run_of}
use Rattle.hg_world.specs.Parts.{IsWorld, nth_node, unfrozen, world_of}
use Rattle.hg_world.specs.Steps.{after_steps, settle_steps}
use Rattle.hg_world.specs.Syncs.{pull_steps}
use Rattle.hg_storm.specs.declared.plan.Plan.{Plan}
use Rattle.hg_storm.specs.declared.outcome.Storm.{Storm}
use Rattle.hg_storm.specs.declared.refusals.Refusal.{Refusal}
use Rattle.hg_storm.specs.Drawing.{circle_of}
use Rattle.hg_storm.specs.Joins.{HasSession}
use Rattle.hg_storm.specs.Mails.{AreMails, IsCollected}
use Rattle.hg_storm.specs.Refusals.{HasTakenNames}

-- the world after a pull, of the first of two members from the second, and after a member's node is settled
abbrev pub after_pull : WorldView → ℕ × ℕ → WorldView
after_pull w pair = after_steps w (pull_steps w pair.0 pair.1)

abbrev pub after_settling : WorldView → ℕ → WorldView
after_settling w m = after_steps w (settle_steps m)

-- the first pulls from each other one, and each other one from it
abbrev pub pulls_to : ℕ → List ℕ → List (ℕ × ℕ)
pulls_to first rest = map (λ k. (first, k)) rest

abbrev pub pulls_from : ℕ → List ℕ → List (ℕ × ℕ)
pulls_from first rest = map (λ k. (k, first)) rest

abbrev pub pulls_of : List ℕ → List (ℕ × ℕ)
pulls_of [] = []
pulls_of (first ∷ rest) = pulls_to first rest ++ pulls_from first rest

-- the world after the pulls of these members, in order, and once each of them is settled
abbrev pub after_pulls : WorldView → List (ℕ × ℕ) → WorldView
after_pulls w pairs = fold after_pull w pairs

abbrev pub gathered : WorldView → List ℕ → WorldView
gathered w circle = fold after_settling (after_pulls w (pulls_of circle)) circle

-- the members' world of these nodes, of which no worker has frozen any rows
abbrev pub world_again : MemberList → List (NodeView Secrets) → WorldView
world_again members ends = world_of (stakes_of members) members.coin (unfrozen ends)

-- The members' nodes, which began without rows, took their turns between threads. Each is that of its member still, and this
-- is what those that have nodes sent each other, in how many turns each made no event, and what each refused; in each of its
-- turns each took all that its mailbox had been given when the turn collected, or as many as it has room for, by the ports that did
-- it. Then the first
-- of those that have nodes pulled from each other one, each other one from it, and these nodes settled. Each history is that
-- of a node, and the run is safe.
pub record IsStorm (members : MemberList) (times room first : ℕ) (s : Storm) : Type 0 where
  pub plan : Plan
  pub circle : plan.circle.items ≡ circle_of members
  pub turns : plan.turns ≡ times
  pub seed : plan.seed ≡ first
  pub ends : List (NodeView Secrets)
  pub count : length ends ≡ length members.entries
  pub starts : (m : ℕ) → m < length ends → (nth_node ends m).start ≡ start_of members m (secrets_of members)
  pub session : HasSession (nodes_of (new_world members)) ends
  pub mail : AreMails plan room ends s.idle.items s.mail.items
  pub ports_count : length s.ports.items ≡ length ends
  pub collected : (k : ℕ) (q : PortView) → k < length ends → IsCollected plan room s.mail.items k (get_or s.ports.items k q)
  pub idle_count : length s.idle.items ≡ length ends
  pub refused_count : length s.refused.items ≡ length ends
  pub each : (k : ℕ) (v : NodeView Secrets) (i : ℕ) (l : Vec Refusal) → k < length ends →
      (p : SharedNode Secrets) × HasTakenNames plan ends s.mail.items k p (get_or ends k v) (get_or s.idle.items k i) (get_or s.refused.items k l).items
  pub ended : s.ended.items ≡ map (λ (v : NodeView Secrets). length v.history) ends
  pub world : s.world ≡ gathered (world_again members ends) plan.circle.items
  pub lawful : IsWorld s.world
  pub safe : IsSafe s.world.members s.world.coin (run_of s.world)
