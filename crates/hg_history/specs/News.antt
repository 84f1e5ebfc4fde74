-- What may be published: what a share found in the first rows, whole or without what has its mark already
use Rattle.std.specs.Prelude.{ℕ, ◌≡◌, ◌≤◌, Bool, List, length, All, Contains, Some, None}
use Rattle.hg_model.specs.Stakes.{Stakes}
use Rattle.hg_model.specs.Fame.{mark_at}
use Rattle.hg_model.specs.Shares.{Share, early_fame}
use Rattle.hg_life.specs.History.{State}

-- of what the share finds in the first `len` rows this is all that has no mark, and maybe more
pub record FindsNews (n : Stakes) (c : ℕ) (s : State) (len : ℕ) (share : Share) (found : List (ℕ × Bool)) : Type 0 where
  pub within : len ≤ length s.rows
  pub fame : All (λ f. early_fame n c s.rows s.links len share f.0 ≡ Some f.1) found
  pub news : (x : ℕ) (v : Bool) → early_fame n c s.rows s.links len share x ≡ Some v → mark_at s.marks x ≡ None → Contains found (x, v)
