-- What reading the front of some bytes gives: a value and the bytes behind it, the first fault, or that more must come
use Rattle.std.specs.Prelude.{◌≡◌, ℕ, List, ◌++◌, ⊤}
use Rattle.hg_wire.specs.declared.message.WireFault.{WireFault}

pub data Outcome (A : Type 0) : Type 0 where
  Unfinished : Outcome A
  Faulty : WireFault → Outcome A
  Finished : A → List ℕ → Outcome A

abbrev pub Reader : Type 0 → Type 0
Reader A = List ℕ → Outcome A

-- one field after the other, up to the first that is faulty or not whole
infixl 10 ◌>>=◌
abbrev pub ◌>>=◌ : {A B : Type 0} → Outcome A → (A → Reader B) → Outcome B
Unfinished >>= next = Unfinished
Faulty fault >>= next = Faulty fault
Finished x rest >>= next = next x rest

-- what an outcome is once more bytes came: a fault and a value stand
abbrev pub Stands : {A : Type 0} → List ℕ → Outcome A → Outcome A → Type 0
Stands more Unfinished later = ⊤
Stands more (Faulty fault) later = later ≡ Faulty fault
Stands more (Finished x rest) later = later ≡ Finished x (rest ++ more)

abbrev pub IsStable : {A : Type 0} → Reader A → Type 0
IsStable read = (bytes more : List ℕ) → Stands more (read bytes) (read (bytes ++ more))
