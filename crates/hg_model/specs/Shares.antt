-- Shares of the witnesses, and what the procedure decideFame of SWIRLDS-TR-2016-01, section 4, finds for one of them.
-- Shares are our own: with them several workers look for fame beside each other
use Rattle.std.specs.Prelude.{ℕ, ◌≡◌, ◌≤◌, ◌%◌, Bool, cond, ◌&&◌, ◌==◌, nat_lt, List, length, take, Option, None, is_some}
use Rattle.hg_model.specs.declared.row.Row.{Row}
use Rattle.hg_model.specs.Places.{count_below, list_below}
use Rattle.hg_model.specs.Stakes.{Stakes}
use Rattle.hg_model.specs.Links.{Link}
use Rattle.hg_model.specs.Rounds.{is_witness}
use Rattle.hg_model.specs.Fame.{fame_of, is_yes}
use Rattle.hg_model.specs.Order.{coin_at}

-- share k of so many
pub record Share : Type 0 where
  pub k : ℕ
  pub «of» : ℕ

-- all witnesses are of the one share of one
abbrev pub whole : Share
whole = record { k = 0; «of» = 1 }

-- x is a witness of the share: its index among all witnesses by place, modulo `of`, is `k`
abbrev pub is_of_share : Stakes → List Link → Share → ℕ → Bool
is_of_share n L share x =
    nat_lt x (length L) && is_witness n L x && count_below x (is_witness n L) % share.of == share.k

-- the fame of x in a graph, if x is of the share and decided
unfoldable pub share_fame : Stakes → ℕ → List Row → List Link → Share → ℕ → Option Bool
share_fame n c G L share x = cond (is_of_share n L share x) (fame_of n c L (coin_at G) x) None

-- the same in the graph of the first `len` rows
abbrev pub early_fame : Stakes → ℕ → List Row → List Link → ℕ → Share → ℕ → Option Bool
early_fame n c G L len share x = share_fame n c (take len G) (take len L) share x

-- the decided witnesses of the share in a graph, by place, each with its fame
unfoldable pub found_in : Stakes → ℕ → List Row → List Link → Share → List (ℕ × Bool)
found_in n c G L share =
    list_below (λ x. (x, is_yes (share_fame n c G L share x))) (length L) (λ x. is_some (share_fame n c G L share x))

-- these places with fame are what the share finds in the first `len` rows of a graph
pub record Speaks (n : Stakes) (c : ℕ) (G : List Row) (L : List Link) (len : ℕ) (share : Share) (found : List (ℕ × Bool)) : Type 0 where
  pub within : len ≤ length G
  pub matches : found ≡ found_in n c (take len G) (take len L) share
