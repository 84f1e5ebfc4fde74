-- A row and its spelling are told by each other.
use Rattle.std.specs.Prelude.{◌≡◌, ℕ, List, Ok}
use Rattle.sha2.specs.Sha512.{sha384}
use Rattle.hg_model.specs.declared.row.Row.{Row}
use Rattle.hg_life.specs.Spelling.{HasSpelling, Spells, spelling}
use Rattle.hg_life.specs.Reading.{read_event}

-- a row that has its sizes and its name has a spelling
abbrev pub RowsAreSpelled : Type 0
RowsAreSpelled = (row : Row) → HasSpelling row → row.name ≡ sha384 (spelling row) → Spells (spelling row) row

-- it has no other
abbrev pub SpellingsAreOne : Type 0
SpellingsAreOne = (bytes others : List ℕ) (row : Row) → Spells bytes row → Spells others row → bytes ≡ others

-- it is the spelling of no other row
abbrev pub RowsAreOne : Type 0
RowsAreOne = (bytes : List ℕ) (row other : Row) → Spells bytes row → Spells bytes other → row ≡ other

-- it is read as the row
abbrev pub SpellingsAreRead : Type 0
SpellingsAreRead = (bytes : List ℕ) (row : Row) → Spells bytes row → read_event bytes ≡ Ok row
