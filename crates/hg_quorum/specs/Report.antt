-- This project's wording of strongly seeing against the report's. SWIRLDS-TR-2016-01, section 5
use Rattle.std.specs.Prelude.{ℕ, ◌≡◌, false, List, IsTrue}
use Rattle.hg_model.specs.declared.row.Row.{Row}
use Rattle.hg_model.specs.Stakes.{Stakes}
use Rattle.hg_model.specs.Links.{links}
use Rattle.hg_model.specs.Forks.{has_fork_below}
use Rattle.hg_model.specs.Seeing.{strongly_sees, strongly_sees_in_report}
use Rattle.hg_model.specs.Graph.{IsGraph}

-- what x strongly sees in the report's words, it strongly sees in this project's
abbrev pub ReportImplies : Type 0
ReportImplies = (n : Stakes) (G : List Row) → IsGraph n G → (x y : ℕ) →
    IsTrue (strongly_sees_in_report n (links G) x y) → IsTrue (strongly_sees n (links G) x y)

-- the two are one where the ancestors of x hold no fork
abbrev pub ReportIsSame : Type 0
ReportIsSame = (n : Stakes) (G : List Row) → IsGraph n G → (x y : ℕ) → ((m : ℕ) → has_fork_below (links G) x m ≡ false) →
    strongly_sees_in_report n (links G) x y ≡ strongly_sees n (links G) x y
