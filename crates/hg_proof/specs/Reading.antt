-- Reading the bytes of a certificate from left to right: what they hold, or the first place at which they break the format.
-- Each part is read from the front of the bytes that are left; `size` is the length of all of them
use Rattle.std.specs.Prelude.{ℕ, zero, suc, ◌-◌, ◌==◌, nat_eq, nat_lt, List, [], ◌∷◌, length, drop, Result, Ok, Err, if◌then◌else◌}
use Rattle.std.specs.List.{starts_with}
use Rattle.std.specs.Int.{Width, w32, w64}
use Rattle.hg_model.specs.declared.row.Row.{Row}
use Rattle.hg_model.specs.declared.row.Placed.{Placed}
use Rattle.hg_life.specs.Results.{◌>>=◌}
use Rattle.hg_life.specs.Reading.{Field, number_field}
use Rattle.hg_event.specs.First.{read_first}
use Rattle.hg_proof.specs.declared.why.Why.{Why}
use Rattle.hg_proof.specs.declared.why.Why.TheVariants as reason
use Rattle.hg_proof.specs.Certificate.{Certificate, certificate, magic, most_rows}

-- a part and the bytes behind it, or why there is none
abbrev pub Part : Type 0 → Type 0
Part A = Result (A × List ℕ) Why

-- the form breaks where these bytes begin, that are left of all
abbrev pub breaks_at : ℕ → List ℕ → Why
breaks_at size left = reason.Form (size - length left)

-- what was read at the front of the bytes; whatever fault was met there, the form breaks where they begin
abbrev pub part_of : {A : Type 0} → ℕ → List ℕ → Field A → Part A
part_of size bytes (Ok x) = Ok x
part_of size bytes (Err fault) = Err (breaks_at size bytes)

-- the bytes behind the magic
unfoldable pub magic_part : ℕ → List ℕ → Result (List ℕ) Why
magic_part size bytes =
    if starts_with nat_eq bytes magic then Ok (drop (length magic) bytes) else Err (breaks_at size bytes)

-- a number of this width
abbrev pub number_part : ℕ → Width → List ℕ → Part ℕ
number_part size width bytes = part_of size bytes (number_field size width bytes)

-- how many rows there are: not too many
unfoldable pub count_part : ℕ → List ℕ → Part ℕ
count_part size bytes = do
  count ← number_part size w32 bytes
  if nat_lt most_rows count.0 then Err (breaks_at size bytes) else Ok count

-- so many parts of one kind, one behind the other
unfoldable pub parts : {A : Type 0} → (List ℕ → Part A) → ℕ → List ℕ → Part (List A)
parts one zero bytes = Ok ([], bytes)
parts one (suc k) bytes = do
  first ← one bytes
  others ← parts one k first.1
  Ok (first.0 ∷ others.0, others.1)

-- the row whose event stands in front
abbrev pub row_part : ℕ → List ℕ → Part Row
row_part size bytes = part_of size bytes (read_first bytes)

-- so many rows
abbrev pub rows_part : ℕ → ℕ → List ℕ → Part (List Row)
rows_part size k bytes = parts (row_part size) k bytes

-- the numbers of an entry, which may be any
unfoldable pub entry_field : ℕ → List ℕ → Field Placed
entry_field size bytes = do
  place ← number_field size w32 bytes
  received ← number_field size w32 place.1
  time ← number_field size w64 received.1
  Ok (record { place = place.0; received = received.0; time = time.0 }, time.1)

abbrev pub entry_part : ℕ → List ℕ → Part Placed
entry_part size bytes = part_of size bytes (entry_field size bytes)

-- so many entries
abbrev pub entries_part : ℕ → ℕ → List ℕ → Part (List Placed)
entries_part size k bytes = parts (entry_part size) k bytes

-- how many entries there are, and these
unfoldable pub order_part : ℕ → List ℕ → Part (List Placed)
order_part size bytes = do
  count ← number_part size w32 bytes
  entries_part size count.0 count.1

-- how many rows there are, and these
unfoldable pub graph_part : ℕ → List ℕ → Part (List Row)
graph_part size bytes = do
  count ← count_part size bytes
  rows_part size count.0 count.1

-- what the bytes hold; behind it there must be nothing
unfoldable pub form_of : List ℕ → Result Certificate Why
form_of bytes = let size = length bytes in do
  rest ← magic_part size bytes
  graph ← graph_part size rest
  order ← order_part size graph.1
  if length order.1 == 0 then Ok (certificate graph.0 order.0) else Err (breaks_at size order.1)
