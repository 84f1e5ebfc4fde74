-- Tails of rows of counts, cut from one list of numbers
use Rattle.std.specs.Prelude.{◌≡◌, ℕ, suc, zero, ◌+◌, ◌-◌, ◌<◌, ◌≤◌, ◌==◌, nat_lt, max, cond, List, [], length, slice_index, slice_index_or, slice_range}
use Rattle.hg_model.specs.Places.{table}
use Rattle.hg_branches.specs.declared.tails.Part.{Part}

-- what a row counts of the branches that are no member's own: of its own branch, whose place among them and one is told, or
-- 0 where it is a member's own, one more than the row's place, and of the others these numbers
pub record Tail : Type 0 where
  pub own : ℕ
  pub numbers : List ℕ

-- no number
abbrev pub no_tail : Tail
no_tail = record { own = 0; numbers = [] }

-- the tail of row x
abbrev pub tail_at : List Tail → ℕ → Tail
tail_at tails x = slice_index_or tails x no_tail

-- what a row counts of the branch at place k, if of its own branch it counts its end and of the others these numbers
abbrev pub place_count : List ℕ → ℕ → ℕ → ℕ → ℕ
place_count numbers own end k = max (slice_index numbers k) (cond (k + 1 == own) end 0)

-- each number of the row is the greater of what it was and of this count
abbrev pub IsRaisedBy : (ℕ → ℕ) → List ℕ → List ℕ → Type 0
IsRaisedBy count old new = (k : ℕ) → slice_index new k ≡ max (slice_index old k) (count k)

-- of how many places it tells
abbrev pub place_width : List ℕ → ℕ → ℕ
place_width numbers own = max (length numbers) own

-- what the tail of row x counts of the branch at place k
abbrev pub tail_count : List Tail → ℕ → ℕ → ℕ
tail_count tails x k = place_count (tail_at tails x).numbers (tail_at tails x).own (x + 1) k

-- how many branches the tail of row x tells of
abbrev pub tail_width : List Tail → ℕ → ℕ
tail_width tails x = place_width (tail_at tails x).numbers (tail_at tails x).own

-- for each row its tail, and memory for one more with fewer numbers than `room`
pub record TailsWithRoom : Type 0 where
  pub rows : List Tail
  pub room : ℕ

abbrev pub no_part : Part
no_part = record { start = 0; end = 0; own = 0 }

-- the tail that is this part of the numbers
abbrev pub tail_of : List ℕ → Part → Tail
tail_of numbers part = record { own = part.own; numbers = slice_range numbers part.start part.end }

-- where the tail of row x stands: the first rows have none
abbrev pub part_at : List Part → ℕ → ℕ → Part
part_at parts before x = cond (nat_lt x before) no_part (slice_index_or parts (x - before) no_part)

-- where the first parts end
abbrev pub end_before : List Part → ℕ → ℕ
end_before parts zero = 0
end_before parts (suc i) = (slice_index_or parts i no_part).end

abbrev pub tails_of : List ℕ → List Part → ℕ → List Tail
tails_of numbers parts before = table (λ x. tail_of numbers (part_at parts before x)) (before + length parts)

-- the parts are in order
pub record KeepsParts (numbers : List ℕ) (parts : List Part) : Type 0 where
  pub start : (i : ℕ) → i < length parts → (slice_index_or parts i no_part).start ≤ (slice_index_or parts i no_part).end
  pub end : (i : ℕ) → i < length parts → (slice_index_or parts i no_part).end ≤ length numbers
  pub ordered : (i j : ℕ) → i ≤ j → j < length parts → (slice_index_or parts i no_part).end ≤ (slice_index_or parts j no_part).end

-- one more than how many numbers the next tail may have, or 0 where there is no memory for it
abbrev pub tail_room : ℕ → ℕ → ℕ
tail_room parts numbers = cond (nat_lt 0 parts) (numbers + 1) 0
