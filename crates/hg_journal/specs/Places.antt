-- Where a journal goes on.
use Rattle.std.specs.Prelude.{◌≡◌, ℕ, List, ◌∷◌, ◌++◌, length}
use Rattle.hg_journal.specs.Reading.{Next, reading, scan}

-- a file with this front leads to this state, and on from there by what stands behind it
pub record Leads {S : Type 0} (next : Next S) (first : S) (head front : List ℕ) (s : S) : Type 0 where
  pub reads : (rest : List ℕ) → reading next first head (front ++ rest) ≡ scan next s (length front) rest

-- the records that lead to this state stand before this place, and a closed gate at it
pub record IsAt {S : Type 0} (next : Next S) (first : S) (head : List ℕ) (s : S) (gate : ℕ) (file : List ℕ) : Type 0 where
  pub front : List ℕ
  pub behind : List ℕ
  pub split : file ≡ front ++ 0 ∷ behind
  pub place : length front ≡ gate
  pub leads : Leads next first head front s
