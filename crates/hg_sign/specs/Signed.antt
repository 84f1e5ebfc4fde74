-- The signature of an event's fields
use Rattle.std.specs.Prelude.{◌≡◌, ℕ, List, true}
use Rattle.hg_model.specs.Links.{ParentNames}
use Rattle.hg_life.specs.Signing.{Accepts}
use Rattle.hg_life.specs.Spelling.{body_bytes}

-- it is accepted as the creator's
abbrev pub IsSigned : Accepts → ℕ → ParentNames → ℕ → List ℕ → List ℕ → Type 0
IsSigned accepts creator parents time payload sig = accepts creator (body_bytes creator parents time payload) sig ≡ true
