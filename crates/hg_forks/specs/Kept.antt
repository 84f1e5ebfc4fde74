-- A row's self-parent as a watch keeps it: a number of 32 bits
use Rattle.std.specs.Prelude.{ℕ, ◌-◌, ◌^◌, ◌==◌, cond, min, Option, Some, None}

-- the number that is kept where there is no place
abbrev pub no_place : ℕ
no_place = 2 ^ 32 - 1

-- the place that this number keeps, if it keeps one
abbrev pub kept_place : ℕ → Option ℕ
kept_place kept = cond (kept == no_place) None (Some kept)

-- how many rows may follow these where there is memory for so many: each place is below `no_place`
abbrev pub room_after : ℕ → ℕ → ℕ
room_after rows most = min most no_place - rows
