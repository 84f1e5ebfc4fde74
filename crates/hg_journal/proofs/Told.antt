-- Whether a disk tells its file.
use Rattle.std.proofs.Common.{◌≡◌, ℕ, List, Option, Some, None, is_some, refl, ap}

-- what is told still, though it may be something else
pub still_told : (before after : Option (List ℕ)) (bytes : List ℕ) → is_some after ≡ is_some before → before ≡ Some bytes → (now : List ℕ) × (after ≡ Some now)
still_told before None bytes e told = absurd (cc (ap (λ (o : Option (List ℕ)). is_some o) told))
still_told before (Some now) bytes e told = (now, refl)
