-- Strongly seeing passes over forks and lasts. SWIRLDS-TR-2016-01, section 5, the lemma on strongly seeing
use Rattle.std.specs.Prelude.{ℕ, ◌<◌, List, length, IsTrue}
use Rattle.hg_model.specs.declared.row.Row.{Row}
use Rattle.hg_model.specs.Stakes.{Stakes}
use Rattle.hg_model.specs.Links.{links}
use Rattle.hg_model.specs.Ancestry.{is_ancestor}
use Rattle.hg_model.specs.Forks.{is_fork}
use Rattle.hg_model.specs.Seeing.{strongly_sees}
use Rattle.hg_model.specs.Graph.{IsGraph}

-- where a and b are a fork by m, no row strongly sees b if any row strongly sees a
abbrev pub ForksAreSeenOnce : Type 0
ForksAreSeenOnce = (n : Stakes) (G : List Row) → IsGraph n G → (m a b x y : ℕ) → x < length G → y < length G →
    IsTrue (is_fork (links G) m a b) → IsTrue (strongly_sees n (links G) x a) → IsTrue (strongly_sees n (links G) y b) → ⊥

-- what an ancestor of x strongly sees, x strongly sees
abbrev pub SightGrows : Type 0
SightGrows = (n : Stakes) (G : List Row) → IsGraph n G → (x p y : ℕ) →
    IsTrue (is_ancestor (links G) x p) → IsTrue (strongly_sees n (links G) p y) → IsTrue (strongly_sees n (links G) x y)
