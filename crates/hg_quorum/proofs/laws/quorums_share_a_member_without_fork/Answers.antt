use Rattle.std.proofs.Common.{◌*◌, true}
use Rattle.std.proofs.lemmas.Bool.{ltb-true, not_from_false}
use Rattle.hg_model.specs.Places.{weight_below}
use Rattle.hg_model.specs.Stakes.{stake_of, member_count, total}
use Rattle.hg_model.specs.Links.{links}
use Rattle.hg_model.specs.Forks.{has_fork, forking}
use Rattle.hg_quorum.proofs.QuorumLaws.{quorums_meet}
use Rattle.hg_quorum.specs.Members.{QuorumsMeet}
use Rattle.hg_quorum.proofs.laws.quorums_share_a_member_without_fork.Goals as goal

weighed : QuorumsMeet
weighed weight n one two few many_one many_two low =
    let all = weight_below weight n (λ _. true) in
    let m = quorums_meet weight n one two few (ltb-true (2 * all) (3 * weight_below weight n one) many_one) (ltb-true (2 * all) (3 * weight_below weight n two) many_two) low in
    (m.0, m.1, m.2, m.3, not_from_false (few m.0) m.4)

pub returns-clause-weighed : goal.returns-clause-weighed
returns-clause-weighed c = weighed

pub returns-clause-without_fork : goal.returns-clause-without_fork
returns-clause-without_fork c = λ n G g one two many_one many_two.
    let low = g.few_forkers in
    weighed (stake_of n) (member_count n) one two (has_fork (links G)) (unfold total in many_one) (unfold total in many_two) (unfold forking total in low)
