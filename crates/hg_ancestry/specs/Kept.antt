-- The places of a row's parents as a graph of bit rows keeps them: numbers of 32 bits
use Rattle.std.specs.Prelude.{ℕ, ◌-◌, ◌^◌}

-- a number that is no place
abbrev pub no_place : ℕ
no_place = 2 ^ 32 - 1
