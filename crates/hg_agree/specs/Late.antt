-- A witness that comes late is not famous, and so a closed round stays closed. SWIRLDS-TR-2016-01, section 5
use Rattle.std.specs.Prelude.{ℕ, ◌<◌, ◌≤◌, ◌≡◌, Bool, false, List, ◌++◌, length, Some, IsTrue}
use Rattle.hg_model.specs.declared.row.Row.{Row}
use Rattle.hg_model.specs.Stakes.{Stakes}
use Rattle.hg_model.specs.Links.{links}
use Rattle.hg_model.specs.Rounds.{round_of, is_witness}
use Rattle.hg_model.specs.Fame.{fame_of, fame_marks, is_closed}
use Rattle.hg_model.specs.Graph.{IsGraph}
use Rattle.hg_model.specs.Order.{coin_at}

-- round r is closed by the fame of the graph
abbrev pub is_closed_by_fame : Stakes → ℕ → List Row → ℕ → Bool
is_closed_by_fame n c G r = is_closed n (links G) (fame_marks n c (links G) (coin_at G)) r

-- where round r is closed in a graph, each witness of that round or an earlier one that a longer graph adds is decided
-- not to be famous
abbrev pub LateWitnessIsNotFamous : Type 0
LateWitnessIsNotFamous = (n : Stakes) (c : ℕ) (G more : List Row) → IsGraph n G → IsGraph n (G ++ more) → 2 < c → (r x : ℕ) →
    IsTrue (is_closed_by_fame n c G r) → length G ≤ x → x < length (G ++ more) →
    IsTrue (is_witness n (links (G ++ more)) x) → round_of n (links (G ++ more)) x ≤ r →
    fame_of n c (links (G ++ more)) (coin_at (G ++ more)) x ≡ Some false

-- and so round r is closed in each longer graph
abbrev pub ClosedRoundsStay : Type 0
ClosedRoundsStay = (n : Stakes) (c : ℕ) (G more : List Row) → IsGraph n G → IsGraph n (G ++ more) → 2 < c → (r : ℕ) →
    IsTrue (is_closed_by_fame n c G r) → IsTrue (is_closed_by_fame n c (G ++ more) r)
