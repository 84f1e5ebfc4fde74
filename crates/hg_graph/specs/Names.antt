-- An index of names: the hash of each row's name, and trees of the rows whose hashes fall into one bucket
use Rattle.std.specs.Prelude.{ℕ, zero, suc, ◌≡◌, ◌+◌, ◌-◌, ◌/◌, ◌%◌, ◌<◌, ◌≤◌, ◌^◌, ◌==◌, ◌⊎◌, cond, List, length, map, min, get_or, take, slice_index}
use Rattle.std.specs.Int.{from_le_bytes, w64}
use Rattle.std.specs.Int.Bits.{bit_and}
use Rattle.hg_model.specs.declared.row.Row.{Row}
use Rattle.hg_model.specs.Graph.{HasDistinctNames}
use Rattle.hg_graph.specs.declared.names.HashedRow.{HashedRow}

-- the first eight bytes of a name, as a number
abbrev pub hash_of : List ℕ → ℕ
hash_of name = from_le_bytes w64 (take 8 name)

abbrev pub row_hash : Row → ℕ
row_hash row = hash_of row.name

-- these are the hashes of the rows' names, and no two rows have one name
pub record HoldsNames (G : List Row) (hashes : List ℕ) : Type 0 where
  pub same : hashes ≡ map row_hash G
  pub distinct : HasDistinctNames G

-- the bucket of a hash where there are so many
abbrev pub bucket_of : ℕ → ℕ → ℕ
bucket_of buckets hash = bit_and (hash / 4294967296) (buckets - 1)

-- hashes of names, in the order of the rows, and for how many more there is memory at least
pub record HashesWithRoom : Type 0 where
  pub hashes : List ℕ
  pub room : ℕ

-- the hashed row at this place
abbrev pub hashed_at : List HashedRow → ℕ → HashedRow
hashed_at hashed x = get_or hashed x (record { hash = 0; even = 0; odd = 0 })

abbrev pub hashes_of : List HashedRow → List ℕ
hashes_of hashed = map (λ (hashed_row : HashedRow). hashed_row.hash) hashed

-- the bucket of the row at this place
abbrev pub bucket_at : ℕ → List HashedRow → ℕ → ℕ
bucket_at buckets hashed x = bucket_of buckets (hashed_at hashed x).hash

-- the number of the row below this one on the way by these digits, or 0
abbrev pub below : HashedRow → ℕ → ℕ
below hashed_row digits = cond (digits % 2 == 0) hashed_row.even hashed_row.odd

-- with the row of this number there
abbrev pub with_below : HashedRow → ℕ → ℕ → HashedRow
with_below hashed_row digits number = record {
  hash = hashed_row.hash;
  even = cond (digits % 2 == 0) number hashed_row.even;
  odd = cond (digits % 2 == 0) hashed_row.odd number;
}

-- the row of place x is met within so many steps on the way by these digits, from the row of this number on
abbrev pub IsMet : List HashedRow → ℕ → ℕ → ℕ → ℕ → Type 0
IsMet hashed x zero number digits = ⊥
IsMet hashed x (suc steps) number digits =
    (number ≡ x + 1) ⊎ ((0 < number) × IsMet hashed x steps (below (hashed_at hashed (number - 1)) digits) (digits / 2))

-- it is met
abbrev pub IsFound : List HashedRow → ℕ → ℕ → ℕ → Type 0
IsFound hashed x number digits = (steps : ℕ) × IsMet hashed x steps number digits

-- of the first `many` rows each stands above later ones of them, and the others above none
abbrev pub AreLaterBelow : List HashedRow → ℕ → Type 0
AreLaterBelow hashed many =
    (x digits : ℕ) → (below (hashed_at hashed x) digits ≡ 0) ⊎
    ((x + 1 < below (hashed_at hashed x) digits) × (below (hashed_at hashed x) digits ≤ many))

-- and the buckets begin with some of them
pub record AreLater (heads : List ℕ) (hashed : List HashedRow) (many : ℕ) : Type 0 where
  pub first : (bucket : ℕ) → slice_index heads bucket ≤ many
  pub below : AreLaterBelow hashed many

-- the first `many` hashed rows are found
pub record AreLinked (heads : List ℕ) (hashed : List HashedRow) (many : ℕ) : Type 0 where
  pub later : AreLater heads hashed many
  pub found : (x : ℕ) → x < many →
      IsFound hashed x (slice_index heads (bucket_at (length heads) hashed x)) (hashed_at hashed x).hash

-- no row stands below it
pub record IsUnlinked (hashed_row : HashedRow) : Type 0 where
  pub even : hashed_row.even ≡ 0
  pub odd : hashed_row.odd ≡ 0

-- the hashes stay, and so do ways, which may go further
pub record LeavesWays (old new : List HashedRow) : Type 0 where
  pub hashes : hashes_of new ≡ hashes_of old
  pub long : length new ≡ length old
  pub kept : (x digits : ℕ) →
      (below (hashed_at old x) digits ≡ 0) ⊎ (below (hashed_at new x) digits ≡ below (hashed_at old x) digits)

-- the row of this number is found from the first one on
pub record Hangs (first hash number : ℕ) (old new : List HashedRow) : Type 0 where
  pub ways : LeavesWays old new
  pub later : AreLaterBelow new number
  pub found : IsFound new (number - 1) (first + 1) hash

-- it is found in its bucket
pub record Enters (heads : List ℕ) (hashed : List HashedRow) (hash number : ℕ) (heads' : List ℕ) (hashed' : List HashedRow) : Type 0 where
  pub ways : LeavesWays hashed hashed'
  pub later : AreLater heads' hashed' number
  pub found : IsFound hashed' (number - 1) (slice_index heads' (bucket_of (length heads) hash)) hash
  pub kept : (bucket : ℕ) → (slice_index heads bucket ≡ 0) ⊎ (slice_index heads' bucket ≡ slice_index heads bucket)

-- what the index keeps to
pub record HoldsIndex (heads : List ℕ) (hashed : List HashedRow) : Type 0 where
  pub linked : AreLinked heads hashed (length hashed)
  pub few : length hashed ≤ length heads
  pub low : length heads ≤ 2 ^ 31

-- for how many more rows there are buckets, and memory
abbrev pub index_room : ℕ → ℕ → ℕ → ℕ
index_room buckets capacity many = min (buckets - many) (capacity - many)
