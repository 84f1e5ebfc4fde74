-- A hasher that goes on by a text
use Rattle.std.specs.Prelude.{ℕ, List, ◌++◌}
use Rattle.sha2.specs.Hashers.{Holds384}
use Rattle.sha2.specs.declared.Sha384.{Sha384}

-- whatever the hasher held, it holds that and then this text
abbrev pub Hashes : Sha384 → Sha384 → List ℕ → Type 0
Hashes old new text = (m : List ℕ) → Holds384 old m → Holds384 new (m ++ text)
