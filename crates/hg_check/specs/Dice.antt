-- Numbers that look thrown, by the generator xorshift64*: three shifts of a state of 64 bits, and a product
use Rattle.std.specs.Prelude.{ℕ, ◌+◌, ◌*◌, ◌/◌, ◌%◌, ◌^◌, bit_xor}

-- the state that dice of this number begin with
abbrev pub first_state : ℕ → ℕ
first_state number = (number + 1) * 0x9e3779b97f4a7c15 % 2 ^ 64

-- a state with itself, moved by so many bits
abbrev pub with_lower : ℕ → ℕ → ℕ
with_lower k x = bit_xor x (x / 2 ^ k)

abbrev pub with_higher : ℕ → ℕ → ℕ
with_higher k x = bit_xor x (x * 2 ^ k % 2 ^ 64)

-- the next one
abbrev pub next_state : ℕ → ℕ
next_state x = with_lower 27 (with_higher 25 (with_lower 12 x))

-- what a state gives, of 64 bits and of their upper half
abbrev pub thrown : ℕ → ℕ
thrown x = x * 0x2545f4914f6cdd1d % 2 ^ 64

abbrev pub upper_half : ℕ → ℕ
upper_half x = thrown x / 2 ^ 32
