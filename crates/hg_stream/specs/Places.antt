-- What a read or a write does to a file that tells its position and its bytes, as one in memory does
use Rattle.std.specs.Prelude.{◌≡◌, ◌<◌, ℕ, List, Option, Some, length, take, IfSome}
use Rattle.std.specs.Option.{ForSome}
use Rattle.std.specs.Io.KnownBytes.{Appends, Consumes, IsAtEnd}

-- where a file was open, one is open still, and this is how the two stand to each other
abbrev pub OfOpen : {F : Type 0} → (F → F → Type 0) → Option F → Option F → Type 0
OfOpen {F} Is old new = ForSome old (λ before. (after : F) × (new ≡ Some after) × Is before after)

-- on the way from old to new it stood at this place, where it tells its position, and then got all of this piece
abbrev pub IsWrittenAt : {W : Type 0} → (W → Option ℕ) → (W → Option (List ℕ)) → ℕ → List ℕ → W → W → Type 0
IsWrittenAt {W} position contents at piece old new =
    (there : W) × IfSome (position old) (λ _. position there ≡ Some at) × Appends (contents there) (contents new) piece

-- .. and then gave the first k bytes of a buffer, none only at its end or where there is no room
abbrev pub IsReadAt : {F : Type 0} → (F → Option ℕ) → (F → Option (List ℕ)) → ℕ → List ℕ → ℕ → F → F → Type 0
IsReadAt {F} position remaining at buf k old new =
    (there : F) × IfSome (position old) (λ _. position there ≡ Some at) × Consumes (remaining there) (remaining new) (take k buf)
    × (k ≡ 0 → 0 < length buf → IsAtEnd (remaining new))
