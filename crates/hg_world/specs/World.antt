-- The nodes of the members, with what the workers of each have frozen. SWIRLDS-TR-2016-01, sections 2 and 3
use Rattle.std.specs.Prelude.{ℕ, ◌≡◌, ◌<◌, List, [], length, map, get_or, replicate, slice_index_or, slice_set}
use Rattle.hg_model.specs.declared.row.Row.{Row}
use Rattle.hg_model.specs.Places.{table}
use Rattle.hg_model.specs.Stakes.{Stakes}
use Rattle.hg_life.specs.Members.{MemberList, stakes_of}
use Rattle.hg_life.specs.Signing.{secrets_of}
use Rattle.hg_life.specs.NodeView.{NodeView, start_of, node_rows}
use Rattle.hg_runs.specs.Run.{Run}
use Rattle.hg_life.specs.Workers.{worker_limit}
use Rattle.hg_world.specs.declared.site.Site as declared

-- the keys of a node: the members' secrets
abbrev pub Secrets : Type 0
Secrets = List (List ℕ)

-- a member's node, and of each of its workers how many rows it froze last, or 0
abbrev pub Site : Type 0
Site = declared.Site

-- the members' stakes, the coin period, and each member's site: its node, and how many rows each of its workers froze last
pub record WorldView : Type 0 where
  pub members : Stakes
  pub coin : ℕ
  pub sites : List Site

abbrev pub site_of : NodeView Secrets → List ℕ → Site
site_of v frozen = record { node = v; frozen = frozen }

-- the node of member m before the first step, under the members' secrets
abbrev pub new_node : MemberList → ℕ → NodeView Secrets
new_node members m = record { start = start_of members m (secrets_of members); history = [] }

abbrev pub new_site : MemberList → ℕ → Site
new_site members m = site_of (new_node members m) (replicate worker_limit 0)

-- the world before the first step
abbrev pub new_world : MemberList → WorldView
new_world members = record { members = stakes_of members; coin = members.coin; sites = table (new_site members) (length members.entries) }

-- the site of member m; one without rows for a number that is no member's
abbrev pub no_site : Site
no_site = site_of (record { start = record { own = 0; members = []; coin = 0; balances = []; limit = 0; keys = [] }; history = [] }) []

abbrev pub site_at : WorldView → ℕ → Site
site_at w m = slice_index_or w.sites m no_site

-- the node of member m, and its rows
abbrev pub node_at : WorldView → ℕ → NodeView Secrets
node_at w m = (site_at w m).node

abbrev pub rows_at : WorldView → ℕ → List Row
rows_at w m = node_rows (node_at w m)

-- how many rows this worker of member m's node froze last, or 0
abbrev pub frozen_by : WorldView → ℕ → ℕ → ℕ
frozen_by w m worker = get_or (site_at w m).frozen worker 0

-- the world with another site of member m
abbrev pub with_site : WorldView → ℕ → Site → WorldView
with_site w m site = record { members = w.members; coin = w.coin; sites = slice_set w.sites m site }

-- with another node of member m
abbrev pub with_node_at : WorldView → ℕ → NodeView Secrets → WorldView
with_node_at w m v = with_site w m (site_of v (site_at w m).frozen)

-- once this worker of member m's node has frozen so many rows
abbrev pub with_frozen : WorldView → ℕ → ℕ → ℕ → WorldView
with_frozen w m worker len = with_site w m (site_of (node_at w m) (slice_set (site_at w m).frozen worker len))

-- the nodes, in the order of the members
abbrev pub nodes_of : WorldView → List (NodeView Secrets)
nodes_of w = map (λ (site : Site). site.node) w.sites

-- the histories, as a run
abbrev pub run_of : WorldView → Run
run_of w = λ m. (node_at w m).history

-- m is the number of a member
abbrev pub IsMemberOf : WorldView → ℕ → Type 0
IsMemberOf w m = m < length w.sites

-- the site is that of member m
pub record IsSiteOf (w : WorldView) (m : ℕ) (site : Site) : Type 0 where
  pub own : site.node.start.own ≡ m
  pub members : site.node.start.members ≡ w.members
  pub coin : site.node.start.coin ≡ w.coin
  pub workers : length site.frozen ≡ worker_limit
