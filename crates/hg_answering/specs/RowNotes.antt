-- What is noted of rows as they come, so that no request walks over all of them
use Rattle.std.specs.Prelude.{ℕ, ◌≡◌, ◌≤◌, Bool, true, cond, ◌&&◌, not, is_some, List, length, take, count_by, slice_set, Option}
use Rattle.std.specs.Str.{bytes_eq}
use Rattle.hg_model.specs.Links.{links}
use Rattle.hg_model.specs.Order.{sequence_of}
use Rattle.hg_model.specs.Places.{table}
use Rattle.hg_model.specs.Prefix.{Graph}
use Rattle.hg_model.specs.Stakes.{member_count}
use Rattle.hg_model.specs.declared.row.Row.{Row}
use Rattle.hg_life.specs.Verdict.{last_name}
use Rattle.hg_service.specs.Binding.{is_strange}
use Rattle.hg_answering.specs.Telling.{has_payload}

-- how many self-ancestors each row has, other than itself
abbrev pub sequences_in : List Row → List ℕ
sequences_in G = table (sequence_of (links G)) (length G)

-- of each member the name of its last row, and whether it is strange; of each row how many self-ancestors it has, other than
-- itself; and how many rows have a payload
pub record RowNotesView : Type 0 where
  pub lasts : List (Option (List ℕ))
  pub strange : List Bool
  pub sequences : List ℕ
  pub payloads : ℕ

-- .. of the first `len` of these rows by so many members, of whom those are strange whose first event carries another payload
abbrev pub first_notes : List ℕ → ℕ → List Row → ℕ → RowNotesView
first_notes bound count G len = record {
  lasts = table (λ m. last_name m (take len G)) count;
  strange = table (is_strange bound (take len G)) count;
  sequences = table (sequence_of (links G)) len;
  payloads = count_by has_payload (take len G);
}

-- .. of all of them
abbrev pub notes_of : List ℕ → ℕ → List Row → RowNotesView
notes_of bound count G = first_notes bound count G (length G)

-- the same of a graph's rows
abbrev pub noted_in : List ℕ → Graph → ℕ → RowNotesView
noted_in bound g len = first_notes bound (member_count g.members) g.rows len

abbrev pub all_noted_in : List ℕ → Graph → RowNotesView
all_noted_in bound g = notes_of bound (member_count g.members) g.rows

-- these are the notes of as many first rows of the graph as have a number
pub record AreFirst (bound : List ℕ) (g : Graph) (notes : RowNotesView) : Type 0 where
  pub within : length notes.sequences ≤ length g.rows
  pub noted : notes ≡ first_notes bound (member_count g.members) g.rows (length notes.sequences)

-- a first event with another payload
abbrev pub is_unbound : List ℕ → Row → Bool
is_unbound bound row = not (is_some row.parents) && not (bytes_eq row.payload bound)

-- the flags with that of the row's creator, if the row is one
abbrev pub with_unbound : List ℕ → Row → List Bool → List Bool
with_unbound bound row flags = cond (is_unbound bound row) (slice_set flags row.creator true) flags
