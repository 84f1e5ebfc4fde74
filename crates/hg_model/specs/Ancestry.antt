-- Ancestors and self-ancestors. SWIRLDS-TR-2016-01, section 5, the definitions of these words
use Rattle.std.specs.Prelude.{ℕ, suc, Bool, ◌&&◌, List}
use Rattle.hg_model.specs.Places.{some_below, reaches}
use Rattle.hg_model.specs.Links.{Link, parents, self_parent}

-- y is x, or an ancestor of a parent of x
unfoldable pub is_ancestor : List Link → ℕ → ℕ → Bool
is_ancestor L x y = reaches (parents L) x y

-- y is x, or a self-ancestor of the self-parent of x
unfoldable pub is_self_ancestor : List Link → ℕ → ℕ → Bool
is_self_ancestor L x y = reaches (self_parent L) x y

-- some ancestor of x passes the test; ancestors of x stand no later than x
abbrev pub some_ancestor : List Link → ℕ → (ℕ → Bool) → Bool
some_ancestor L x test = some_below (suc x) (λ y. is_ancestor L x y && test y)
