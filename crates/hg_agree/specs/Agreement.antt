-- Decisions last, and all deciders agree. SWIRLDS-TR-2016-01, section 5, the lemmas on votes
use Rattle.std.specs.Prelude.{ℕ, ◌<◌, ◌≤◌, ◌≡◌, Bool, List, ◌++◌, length, Some, IsTrue}
use Rattle.hg_model.specs.declared.row.Row.{Row}
use Rattle.hg_model.specs.Stakes.{Stakes}
use Rattle.hg_model.specs.Links.{links}
use Rattle.hg_model.specs.Rounds.{round_of, is_witness}
use Rattle.hg_model.specs.Votes.{vote_of, decides}
use Rattle.hg_model.specs.Fame.{fame_of}
use Rattle.hg_model.specs.Graph.{IsGraph}
use Rattle.hg_model.specs.Order.{coin_at}

-- the vote of y on x
abbrev pub vote_by : Stakes → ℕ → List Row → ℕ → ℕ → Bool
vote_by n c G x y = vote_of n c (links G) (coin_at G) x y

-- y decides the fame of x
abbrev pub decides_by : Stakes → ℕ → List Row → ℕ → ℕ → Bool
decides_by n c G x y = decides n c (links G) (coin_at G) x y

-- where y decides, each witness z of its round or of a later one votes as y does
abbrev pub DecisionsLast : Type 0
DecisionsLast = (n : Stakes) (c : ℕ) (G : List Row) → IsGraph n G → (x y z : ℕ) → y < length G → z < length G →
    IsTrue (decides_by n c G x y) → IsTrue (is_witness n (links G) z) → round_of n (links G) y ≤ round_of n (links G) z →
    vote_by n c G x z ≡ vote_by n c G x y

-- two deciders of x decide alike
abbrev pub DecidersAgree : Type 0
DecidersAgree = (n : Stakes) (c : ℕ) (G : List Row) → IsGraph n G → (x a b : ℕ) → a < length G → b < length G →
    IsTrue (decides_by n c G x a) → IsTrue (decides_by n c G x b) → vote_by n c G x a ≡ vote_by n c G x b

-- so do one in a graph and one in a longer graph
abbrev pub DecidersAgreeLater : Type 0
DecidersAgreeLater = (n : Stakes) (c : ℕ) (G more : List Row) → IsGraph n G → IsGraph n (G ++ more) → (x a b : ℕ) →
    x < length G → a < length G → b < length (G ++ more) →
    IsTrue (decides_by n c G x a) → IsTrue (decides_by n c (G ++ more) x b) → vote_by n c G x a ≡ vote_by n c (G ++ more) x b

-- and the fame of x in a graph is its fame in each longer one
abbrev pub FameIsKept : Type 0
FameIsKept = (n : Stakes) (c : ℕ) (G more : List Row) → IsGraph n G → IsGraph n (G ++ more) → (x : ℕ) (famous : Bool) →
    fame_of n c (links G) (coin_at G) x ≡ Some famous → fame_of n c (links (G ++ more)) (coin_at (G ++ more)) x ≡ Some famous
