-- What the places of a list weigh
use Rattle.std.specs.Prelude.{ℕ, Bool, cond, List, sum_by}

-- the sum of the weights of those of these places that pass the test
abbrev pub weight_among : (ℕ → ℕ) → (ℕ → Bool) → List ℕ → ℕ
weight_among weight test places = sum_by (λ k. cond (test k) (weight k) 0) places
