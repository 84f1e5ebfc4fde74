-- The bytes of borrowed words, and how it is said that a value is the one that is read
use Rattle.std.specs.Prelude.{ℕ, List, [], ◌∷◌, map, Result, Ok}
use Rattle.std.specs.Borrow.{Bor}
use Rattle.hg_model.specs.declared.stop.Stop.{Stop}
use Rattle.hg_life.specs.Results.{Gives, ◌>>=◌}

abbrev pub bytes_in : List (Bor (List ℕ)) → List (List ℕ)
bytes_in words = map (λ word. word.now) words

-- the value is what reading finds, or the fault is the same, unless memory runs out
abbrev pub ReadsAs : {X E : Type 0} → Result X (Stop E) → Result X E → Type 0
ReadsAs result read = Gives (λ x. x) result read

-- what is read of each of these words, one after the other
abbrev pub read_each : {X E : Type 0} → (List ℕ → Result X E) → List (List ℕ) → Result (List X) E
read_each read [] = Ok []
read_each read (word ∷ words) = read word >>= (λ x. read_each read words >>= (λ xs. Ok (x ∷ xs)))
