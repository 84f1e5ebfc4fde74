-- What a creator signs.
use Rattle.std.specs.Prelude.{◌≡◌, ℕ, List, ◌++◌, length}
use Rattle.hg_model.specs.Links.{ParentNames}
use Rattle.hg_life.specs.Spelling.{Spells}
use Rattle.hg_life.specs.Verdict.{signed_row}

-- with any signature behind it the body spells the row of these fields and that signature
abbrev pub SpellsSigned : List ℕ → ℕ → ParentNames → ℕ → List ℕ → Type 0
SpellsSigned body creator parents time payload =
    (sig : List ℕ) → length sig ≡ 64 → Spells (body ++ sig) (signed_row creator parents time payload sig)
