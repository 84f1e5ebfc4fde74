-- What every world keeps to, over its parts
use Rattle.std.specs.Prelude.{ℕ, ◌≡◌, ◌<◌, ◌≤◌, List, length, map, get_or, replicate}
use Rattle.hg_model.specs.declared.row.Row.{Row}
use Rattle.hg_model.specs.Stakes.{Stakes, member_count}
use Rattle.hg_life.specs.Signing.{accepts_by}
use Rattle.hg_life.specs.NodeView.{NodeView, IsNode, node_rows}
use Rattle.hg_graph.specs.Held.{AreEvents}
use Rattle.hg_gossip.specs.Handing.{HeardView}
use Rattle.hg_gossip.specs.Known.{KeepsKnown}
use Rattle.hg_world.specs.World.{Secrets, Site, WorldView, IsSiteOf, no_site, nodes_of, rows_at, site_at, site_of}
use Rattle.hg_life.specs.Workers.{worker_limit}

abbrev pub world_of : Stakes → ℕ → List Site → WorldView
world_of n c sites = record { members = n; coin = c; sites = sites }

-- among the members of this node, with its coin period
abbrev pub world_like : NodeView Secrets → List Site → WorldView
world_like v sites = world_of v.start.members v.start.coin sites

-- the site is the member's, and its node is one, with these keys, whose workers froze no more rows than it has
pub record KeepsSite (w : WorldView) (keys : Secrets) (m : ℕ) (site : Site) : Type 0 where
  pub is : IsSiteOf w m site
  pub keyed : site.node.start.keys ≡ keys
  pub node : IsNode accepts_by site.node
  pub frozen : (worker : ℕ) → get_or site.frozen worker 0 ≤ length (node_rows site.node)

-- there are members, and a site for each; the nodes have the same keys
pub record IsWorld (w : WorldView) : Type 0 where
  pub coin : 2 < w.coin
  pub some : 0 < length w.sites
  pub count : length w.sites ≡ member_count w.members
  pub keys : Secrets
  pub sites : (m : ℕ) → m < length w.sites → KeepsSite w keys m (site_at w m)

-- all rows of its nodes are events
abbrev pub HaveEvents : WorldView → Type 0
HaveEvents w = (m : ℕ) → m < length w.sites → AreEvents (rows_at w m)

-- the nodes of these sites
abbrev pub nodes_in : List Site → List (NodeView Secrets)
nodes_in sites = map (λ (site : Site). site.node) sites

-- the rows of each of these nodes
abbrev pub rows_of_each : List (NodeView Secrets) → List (List Row)
rows_of_each nodes = map (λ (v : NodeView Secrets). node_rows v) nodes

-- a world whose nodes have of each other what they have heard, and room for the nodes
pub record KeepsParts (w : WorldView) (known : List (List HeardView)) (room : ℕ) : Type 0 where
  pub few : length w.sites ≤ 128
  pub world : IsWorld w
  pub heard : KeepsKnown (rows_of_each (nodes_of w)) known
  pub fits : length w.sites ≤ room

-- the node at a place; one without rows where there is none
abbrev pub no_node : NodeView Secrets
no_node = no_site.node

abbrev pub nth_node : List (NodeView Secrets) → ℕ → NodeView Secrets
nth_node nodes m = get_or nodes m no_node

-- the node is that of member m among such members, with these keys
pub record HasStart (n : Stakes) (c : ℕ) (keys : Secrets) (m : ℕ) (v : NodeView Secrets) : Type 0 where
  pub own : v.start.own ≡ m
  pub members : v.start.members ≡ n
  pub coin : v.start.coin ≡ c
  pub keyed : v.start.keys ≡ keys

-- nodes among members of the same stakes, with one coin period and the same keys, one for each, in the members' order
pub record AreOfMembers (n : Stakes) (c : ℕ) (keys : Secrets) (nodes : List (NodeView Secrets)) : Type 0 where
  pub some : 0 < length nodes
  pub count : length nodes ≡ member_count n
  pub each : (m : ℕ) → m < length nodes → HasStart n c keys m (nth_node nodes m)

abbrev pub AreOfOneList : List (NodeView Secrets) → Type 0
AreOfOneList nodes = (n : Stakes) × (c : ℕ) × (keys : Secrets) × AreOfMembers n c keys nodes

-- the nodes as a world of which no worker has frozen any rows
abbrev pub unfrozen : List (NodeView Secrets) → List Site
unfrozen nodes = map (λ (v : NodeView Secrets). site_of v (replicate worker_limit 0)) nodes
