-- A hasher that has taken in a secret's block.
use Rattle.std.specs.Prelude.{ℕ, List}
use Rattle.sha2.specs.declared.Sha512.{Sha512}
use Rattle.sha2.specs.Hashers.{Holds512}
use Rattle.hg_life.specs.Signing.{masked, padded_secret}

-- the hasher holds the secret's block under this mask, and no more
abbrev pub HoldsMasked : Sha512 → ℕ → List ℕ → Type 0
HoldsMasked hasher mask secret = Holds512 hasher (masked mask (padded_secret secret))
