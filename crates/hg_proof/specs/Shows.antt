-- What it is that bytes show a graph and its order
use Rattle.std.specs.Prelude.{ℕ, ◌≡◌, ◌≤◌, List, length, Some, slice_get}
use Rattle.std.specs.List.{AllByRecursion}
use Rattle.hg_model.specs.declared.row.Row.{Row}
use Rattle.hg_model.specs.Stakes.{Stakes}
use Rattle.hg_model.specs.Graph.{IsGraph}
use Rattle.hg_model.specs.Order.{order_of}
use Rattle.hg_life.specs.Signing.{Accepts}
use Rattle.hg_life.specs.Spelling.{Spells, spelling}
use Rattle.hg_history.specs.Laws.{IsEvent}
use Rattle.hg_proof.specs.Certificate.{Certificate, AreEntries, certificate_bytes, most_rows}

-- each row has the sizes and the name of an event
abbrev pub AreSpelled : List Row → Type 0
AreSpelled rows = AllByRecursion (λ (row : Row). Spells (spelling row) row) rows

-- and its signature is accepted
abbrev pub AreSigned : Accepts → List Row → Type 0
AreSigned accepts G = (x : ℕ) (row : Row) → slice_get G x ≡ Some row → IsEvent accepts row

-- the bytes spell a graph of signed events and the whole order of this graph, among members with these stakes, with coin
-- period c
pub record Shows (accepts : Accepts) (n : Stakes) (c : ℕ) (bytes : List ℕ) (shown : Certificate) : Type 0 where
  pub spelled : bytes ≡ certificate_bytes shown
  pub few : length shown.rows ≤ most_rows
  pub sized : AreEntries shown.order
  pub graph : IsGraph n shown.rows
  pub signed : AreSigned accepts shown.rows
  pub whole : shown.order ≡ order_of n c shown.rows
