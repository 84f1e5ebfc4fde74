-- Where memory may be wanted: only of bytes that begin as a certificate does
use Rattle.std.specs.Prelude.{ℕ, ◌≡◌, ◌<◌, ⊤, List, length, Result, Ok, Err}
use Rattle.hg_model.specs.declared.stop.Stop.{Stop}
use Rattle.hg_model.specs.declared.stop.Stop.TheVariants.{Memory, Fault}
use Rattle.hg_proof.specs.declared.why.Why.{Why}
use Rattle.hg_proof.specs.Reading.{Part, count_part, magic_part, row_part}

-- the part stands in front
abbrev pub IsRead : {A : Type 0} → Part A → Type 0
IsRead (Ok part) = ⊤
IsRead (Err why) = ⊥

-- if memory ran out, this is so
abbrev pub IfMemory : Stop Why → Type 0 → Type 0
IfMemory Memory IsSo = IsSo
IfMemory (Fault why) IsSo = ⊤

abbrev pub OnMemory : {A : Type 0} → Result A (Stop Why) → Type 0 → Type 0
OnMemory (Ok done) IsSo = ⊤
OnMemory (Err stop) IsSo = IfMemory stop IsSo

-- of so many rows the first one stands in front, if there are any
abbrev pub HasFirst : ℕ → ℕ → List ℕ → Type 0
HasFirst size count bytes = 0 < count → IsRead (row_part size bytes)

-- how many rows there are is told, and not too many; the first of them stands behind that
pub record BeginsGraph (size : ℕ) (bytes : List ℕ) : Type 0 where
  pub count : ℕ × List ℕ
  pub counted : count_part size bytes ≡ Ok count
  pub first : HasFirst size count.0 count.1

-- the magic stands in front, and the beginning of a graph behind it
pub record IsBegun (bytes : List ℕ) : Type 0 where
  pub rest : List ℕ
  pub magic : magic_part (length bytes) bytes ≡ Ok rest
  pub graph : BeginsGraph (length bytes) rest
