-- What stands at a place where a gate must stand.
use Rattle.std.specs.Prelude.{◌≡◌, ◌≤◌, ◌⊎◌, ℕ, List, [], ◌∷◌, ◌++◌, length, take, None}
use Rattle.hg_journal.specs.Records.{record_of, size_of}
use Rattle.hg_journal.specs.declared.ahead.Ahead.{Ahead}
use Rattle.hg_journal.specs.declared.ahead.Ahead.TheVariants.{Closed, Record, Nothing}

-- an open gate with a record of this kind and body stands at the front of these bytes
pub record IsRecordAt (bytes : List ℕ) (kind : ℕ) (body : List ℕ) : Type 0 where
  pub gate : ℕ
  pub a : ℕ
  pub b : ℕ
  pub rest : List ℕ
  pub split : bytes ≡ gate ∷ kind ∷ a ∷ b ∷ (body ++ rest)
  pub is_open : gate ≡ 0 → ⊥
  pub size : size_of a b ≡ length body

-- a closed gate does
abbrev pub IsClosedAt : List ℕ → Type 0
IsClosedAt bytes = (rest : List ℕ) × (bytes ≡ 0 ∷ rest)

-- no gate does, or an open one without a record
abbrev pub IsNothingAt : List ℕ → Type 0
IsNothingAt bytes =
    (bytes ≡ [])
    ⊎ ((gate : ℕ) × (rest : List ℕ) × (bytes ≡ gate ∷ rest) × (gate ≡ 0 → ⊥) × (record_of rest ≡ None))

-- this stands at the front of the bytes; the body of a record is the front of a buffer
abbrev pub IsAhead : List ℕ → List ℕ → Ahead → Type 0
IsAhead bytes buf Closed = IsClosedAt bytes
IsAhead bytes buf (Record kind size) = IsRecordAt bytes kind (take size buf) × (size ≤ length buf)
IsAhead bytes buf Nothing = IsNothingAt bytes

-- the same, of as many of the bytes as a gate and the beginning of a record have
abbrev pub IsAheadOf : List ℕ → Ahead → Type 0
IsAheadOf four Closed = IsClosedAt four
IsAheadOf four (Record kind size) =
    (gate : ℕ) × (a : ℕ) × (b : ℕ) × (four ≡ gate ∷ kind ∷ a ∷ b ∷ []) × (gate ≡ 0 → ⊥) × (size_of a b ≡ size)
IsAheadOf four Nothing =
    (four ≡ [])
    ⊎ ((length four ≤ 3) × ((gate : ℕ) × (rest : List ℕ) × (four ≡ gate ∷ rest) × (gate ≡ 0 → ⊥)))
