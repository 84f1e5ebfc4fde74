-- Two quorums have a member in common. SWIRLDS-TR-2016-01, section 5, the ground of its first lemma
use Rattle.std.specs.Prelude.{ℕ, ◌*◌, ◌<◌, Bool, true, not, List, IsTrue}
use Rattle.hg_model.specs.declared.row.Row.{Row}
use Rattle.hg_model.specs.Places.{weight_below}
use Rattle.hg_model.specs.Stakes.{Stakes, member_count, stake_where, total}
use Rattle.hg_model.specs.Links.{links}
use Rattle.hg_model.specs.Forks.{has_fork}
use Rattle.hg_model.specs.Seeing.{is_supermajority}
use Rattle.hg_model.specs.Graph.{IsGraph}

-- a member is in one set and in the other, and not among the few
abbrev pub HasSharedMember : ℕ → (ℕ → Bool) → (ℕ → Bool) → (ℕ → Bool) → Type 0
HasSharedMember n one two few = (m : ℕ) × (m < n) × IsTrue (one m) × IsTrue (two m) × IsTrue (not (few m))

-- two sets of more than two thirds of the weight share a member outside any set of less than a third of it
abbrev pub QuorumsMeet : Type 0
QuorumsMeet = (weight : ℕ → ℕ) (n : ℕ) (one two few : ℕ → Bool) →
    IsTrue (is_supermajority (weight_below weight n (λ _. true)) (weight_below weight n one)) →
    IsTrue (is_supermajority (weight_below weight n (λ _. true)) (weight_below weight n two)) →
    3 * weight_below weight n few < weight_below weight n (λ _. true) →
    HasSharedMember n one two few

-- in a graph two sets of members with more than two thirds of the stake each share one that has no fork
abbrev pub QuorumsShareAMember : Type 0
QuorumsShareAMember = (n : Stakes) (G : List Row) → IsGraph n G → (one two : ℕ → Bool) →
    IsTrue (is_supermajority (total n) (stake_where n one)) → IsTrue (is_supermajority (total n) (stake_where n two)) →
    HasSharedMember (member_count n) one two (has_fork (links G))
