-- What a share of the witnesses may still decide
use Rattle.std.specs.Prelude.{ℕ, ◌≡◌, ◌<◌, ◌%◌, Bool, ◌&&◌, ◌==◌, nat_lt, List, ◌++◌, All, Contains, filter, get_or, length, Option, None, Some, is_none, IsTrue}
use Rattle.hg_model.specs.Fame.{Marks, mark_at}
use Rattle.hg_model.specs.Prefix.{Graph, links_of}
use Rattle.hg_model.specs.GraphWords.{share_fame_in}
use Rattle.hg_model.specs.declared.share.Found.{Found}
use Rattle.hg_model.specs.Shares.{Share, early_fame, is_of_share}
use Rattle.hg_fame.specs.Decisions.{AreWitnesses}
use Rattle.hg_votes.specs.Counting.{Counting, IsMadeFor}
use Rattle.hg_node.specs.declared.open.Open.{Open}

-- x is one of the first `len` rows and of the share, by its number among the witnesses, and has no mark
abbrev pub is_open : Counting → Marks → Share → ℕ → ℕ → Bool
is_open votes marks share len x = nat_lt x len && get_or votes.voters.numbers x 0 % share.of == share.k && is_none (mark_at marks x)

-- those of the witnesses that are open come behind the old places
abbrev pub AddsOpen : Counting → Marks → Share → ℕ → List ℕ → List ℕ → List ℕ → Type 0
AddsOpen votes marks share len witnesses old new = new ≡ old ++ filter (is_open votes marks share len) witnesses

-- these places are witnesses of the share among the first `len` rows, without a mark, and with them is each such one that
-- these rows decide
pub record OpensAll (g : Graph) (marks : Marks) (share : Share) (len : ℕ) (places : List ℕ) : Type 0 where
  pub witnesses : AreWitnesses g len places
  pub mine : All (λ x. IsTrue (is_of_share g.members (links_of g) share x)) places
  pub unmarked : All (λ x. mark_at marks x ≡ None) places
  pub all : (x : ℕ) (v : Bool) → early_fame g.members g.coin g.rows (links_of g) len share x ≡ Some v → mark_at marks x ≡ None → Contains places x

-- the graph, votes on it, and such places of all its rows, at least one
pub record IsOpening (g : Graph) (marks : Marks) (share : Share) (opened : Open) : Type 0 where
  pub graph : opened.graph.graph ≡ g
  pub votes : IsMadeFor opened.votes g
  pub places : OpensAll g marks share (length g.rows) opened.places.items
  pub some : 0 < length opened.places.items

-- each witness of the share that the graph decides has its mark
abbrev pub HasShareMarks : Graph → Marks → Share → Type 0
HasShareMarks g marks share = (x : ℕ) (v : Bool) → share_fame_in g share x ≡ Some v → mark_at marks x ≡ Some v

-- none is opened only where the share has all its marks
abbrev pub Opens : Graph → Marks → Share → Option Open → Type 0
Opens g marks share None = HasShareMarks g marks share
Opens g marks share (Some opened) = IsOpening g marks share opened

-- none of what was found has its mark
abbrev pub AreUnmarked : Marks → Found → Type 0
AreUnmarked marks found = All (λ (f : ℕ × Bool). mark_at marks f.0 ≡ None) found.marks
