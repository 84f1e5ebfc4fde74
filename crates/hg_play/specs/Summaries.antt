-- What a summary tells of a node, by the marks that it has published
use Rattle.std.specs.Prelude.{ℕ, ◌≡◌, ◌<◌, ◌≤◌, true, List, [], ◌∷◌, ◌++◌, cond, length}
use Rattle.std.specs.List.{sum}
use Rattle.sha2.specs.Sha512.{sha384}
use Rattle.hg_outcome.specs.declared.outcome.NodeSummary.{NodeSummary}
use Rattle.hg_model.specs.declared.row.Row.{Row}
use Rattle.hg_model.specs.declared.row.Placed.{Placed}
use Rattle.hg_model.specs.Forks.{forkers}
use Rattle.hg_model.specs.Graph.{name_at}
use Rattle.hg_model.specs.Links.{links}
use Rattle.hg_model.specs.Rounds.{last_round}
use Rattle.hg_life.specs.Calls.{IsSettled}
use Rattle.hg_life.specs.Members.{MemberList, has_node}
use Rattle.hg_life.specs.NodeView.{NodeView, book_kept, kept_of, last_closed_of, node_rows}
use Rattle.hg_script.specs.declared.line.Line.{Line}
use Rattle.hg_world.specs.World.{Secrets, WorldView, IsMemberOf, node_at}
use Rattle.hg_play.specs.Alike.{WorldsAlike}
use Rattle.hg_play.specs.Play.{after_lines, first_stage, stage}
use Rattle.hg_play.specs.Sites.{starts, starts_of}

-- the names of the rows of an order, one after the other
abbrev pub names_in : List Row → List Placed → List ℕ
names_in G [] = []
names_in G (p ∷ order) = name_at G p.place ++ names_in G order

-- the digest of those of the order that a node keeps
abbrev pub digest_of : {K : Type 0} → NodeView K → List ℕ
digest_of v = sha384 (names_in (node_rows v) (kept_of v))

-- what is told of the node of member m
abbrev pub node_told : {K : Type 0} → ℕ → NodeView K → NodeSummary
node_told m v = record {
  member = m;
  events = length (node_rows v);
  forkers = forkers v.start.members (links (node_rows v));
  greatest = last_round v.start.members (links (node_rows v));
  closed = last_closed_of v;
  ordered = length (kept_of v);
  digest = digest_of v;
  total = sum (book_kept v).balances;
}

-- that of member m's node in a world behind what is told of others, if the member has one
abbrev pub told_at : WorldView → ℕ → NodeSummary
told_at w m = node_told m (node_at w m)

abbrev pub with_told : MemberList → WorldView → List NodeSummary → ℕ → List NodeSummary
with_told members w before m = before ++ cond (has_node members m) (told_at w m ∷ []) []

-- it was told of a member's node in this world
pub record IsTold (w : WorldView) (told : NodeSummary) : Type 0 where
  pub member : IsMemberOf w told.member
  pub digest : told.digest ≡ digest_of (node_at w told.member)

-- after the lines, which were played over nodes that began as those of these members, the nodes are those of the world after
-- them
abbrev pub PlaysQuietly : MemberList → List Line → WorldView → WorldView → Type 0
PlaysQuietly members lines old new = starts_of old ≡ starts members → new ≡ (after_lines members (stage old [] []) lines).world

-- the world's nodes are those after the lines, but for marks
abbrev pub IsWorldOf : MemberList → List Line → WorldView → Type 0
IsWorldOf members lines w = WorldsAlike w (after_lines members (first_stage members) lines).world

-- the node of member m was settled, if the member has one
abbrev pub IsSettledNode : MemberList → ℕ → WorldView → WorldView → Type 0
IsSettledNode members m old new = has_node members m ≡ true → IsSettled (node_at old m) (node_at new m)

-- those of the first members, so many, were, and the others are as they were
pub record SettledBelow (members : MemberList) (m : ℕ) (old now : WorldView) : Type 0 where
  pub done : (k : ℕ) → k < m → IsSettledNode members k old now
  pub rest : (k : ℕ) → m ≤ k → node_at now k ≡ node_at old k
