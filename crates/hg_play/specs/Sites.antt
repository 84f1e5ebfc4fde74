-- What the nodes of a world began with
use Rattle.std.specs.Prelude.{ℕ, ◌≡◌, List, length, map}
use Rattle.hg_model.specs.Places.{table}
use Rattle.hg_life.specs.Members.{MemberList}
use Rattle.hg_life.specs.Signing.{secrets_of}
use Rattle.hg_life.specs.NodeView.{NodeView, Start, start_of}
use Rattle.hg_world.specs.World.{IsMemberOf, Secrets, Site, WorldView, node_at}

-- what the node of member m begins with
abbrev pub start_in : MemberList → ℕ → Start Secrets
start_in members m = start_of members m (secrets_of members)

-- the node was made with these members, under some keys
abbrev pub IsMadeWith : {K : Type 0} → MemberList → NodeView K → Type 0
IsMadeWith members v = v.start ≡ start_of members v.start.own v.start.keys

-- so were all nodes of this world
abbrev pub AreMadeWith : MemberList → WorldView → Type 0
AreMadeWith members w = (m : ℕ) → IsMemberOf w m → IsMadeWith members (node_at w m)

-- .. and under the members' secrets
abbrev pub BeganWith : MemberList → WorldView → Type 0
BeganWith members w = (m : ℕ) → IsMemberOf w m → (node_at w m).start ≡ start_in members m

-- what the nodes of all members begin with
abbrev pub starts : MemberList → List (Start Secrets)
starts members = table (start_in members) (length members.entries)

-- what the nodes of this world began with
abbrev pub starts_of : WorldView → List (Start Secrets)
starts_of w = map (λ (site : Site). site.node.start) w.sites
