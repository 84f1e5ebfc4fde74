-- Numbers drawn from a state of 64 bits, one after the other
use Rattle.std.specs.Prelude.{ℕ, zero, suc, ◌+◌, ◌*◌, ◌/◌, ◌%◌, ◌^◌}

abbrev pub multiplier : ℕ
multiplier = 6364136223846793005

abbrev pub increment : ℕ
increment = 1442695040888963407

-- a draw changes the state by a linear congruence
abbrev pub next_state : ℕ → ℕ
next_state x = (x * multiplier + increment) % 2 ^ 64

-- and gives the upper half of it
abbrev pub upper_half : ℕ → ℕ
upper_half x = x / 2 ^ 32

-- the state after so many draws
abbrev pub state_after : ℕ → ℕ → ℕ
state_after x zero = x
state_after x (suc k) = next_state (state_after x k)

-- the number that draw k gives, the first being 1
abbrev pub drawn : ℕ → ℕ → ℕ
drawn x k = upper_half (state_after x k)
