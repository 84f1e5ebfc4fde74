-- Each round stands on a quorum of the round before. SWIRLDS-TR-2016-01, section 5
use Rattle.std.specs.Prelude.{ℕ, ◌+◌, ◌<◌, ◌≡◌, Bool, ◌&&◌, ◌==◌, List, length, IsTrue}
use Rattle.hg_model.specs.declared.row.Row.{Row}
use Rattle.hg_model.specs.Places.{some_below}
use Rattle.hg_model.specs.Stakes.{Stakes, stake_where, total}
use Rattle.hg_model.specs.Links.{Link, links, creator}
use Rattle.hg_model.specs.Seeing.{is_supermajority}
use Rattle.hg_model.specs.Rounds.{is_seen_witness, round_of}
use Rattle.hg_model.specs.Graph.{IsGraph}

-- w is a witness of round r that x strongly sees
abbrev pub is_seen_in : Stakes → List Link → ℕ → ℕ → ℕ → Bool
is_seen_in n L r x w = is_seen_witness (round_of n L) n L r x w

-- x strongly sees a witness of round r by member m
abbrev pub has_seen_witness : Stakes → List Link → ℕ → ℕ → ℕ → Bool
has_seen_witness n L r x m = some_below x (λ w. is_seen_in n L r x w && creator L w == m)

-- x strongly sees witnesses of round r by members of more than two thirds of the stake, one by each
pub record SeesQuorum (n : Stakes) (L : List Link) (r x : ℕ) : Type 0 where
  pub many : IsTrue (is_supermajority (total n) (stake_where n (has_seen_witness n L r x)))
  pub one : (a b : ℕ) → IsTrue (is_seen_in n L r x a) → IsTrue (is_seen_in n L r x b) → creator L a ≡ creator L b → a ≡ b

-- so does every row of round r + 1
abbrev pub RoundsCarryAQuorum : Type 0
RoundsCarryAQuorum = (n : Stakes) (G : List Row) → IsGraph n G → (x r : ℕ) → x < length G → 0 < r →
    round_of n (links G) x ≡ r + 1 → SeesQuorum n (links G) r x
