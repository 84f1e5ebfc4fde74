-- The quorum of a round, by members
use Rattle.std.proofs.Common.{◌≡◌, ℕ, ◌+◌, ◌*◌, ◌<◌, ◌≤◌, List, length, arith}
use Rattle.std.proofs.lemmas.Bool.{ltb-true, lt-ltb}
use Rattle.hg_model.specs.Stakes.{Stakes, stake_where, total}
use Rattle.hg_model.specs.Links.{Link}
use Rattle.hg_model.specs.Forks.{forking}
use Rattle.hg_model.specs.Rounds.{round_of, weight_of}
use Rattle.hg_model.specs.Graph.{IsShaped}
use Rattle.hg_model.proofs.SeenLaws.{seen_witness_is}
use Rattle.hg_agree.proofs.WitnessLaws.{round_quorum, one_witness_seen, seen_witnesses-le}
use Rattle.hg_agree.specs.Quorum.{is_seen_in, has_seen_witness, SeesQuorum}

-- each row of round r + 1 has its quorum in round r
pub sees_quorum : (n : Stakes) (L : List Link) → IsShaped n L → 3 * forking n L < total n → (x r : ℕ) → x < length L → 0 < r → round_of n L x ≡ r + 1 → SeesQuorum n L r x
sees_quorum n L s few x r hx pos is =
    let witnesses = weight_of n L x (is_seen_in n L r x) in
    let members = stake_where n (has_seen_witness n L r x) in
    let many : 2 * total n < 3 * witnesses = ltb-true (2 * total n) (3 * witnesses) (round_quorum n L s.earlier x r pos is) in
    let le : witnesses ≤ members = seen_witnesses-le n L s few r x x (is_seen_in n L r x) hx (omega arith) (λ w hw t. seen_witness_is n L r x w t) in
    record {
      many = lt-ltb (2 * total n) (3 * members) (omega arith);
      one = λ a b ta tb same. one_witness_seen n L s few r x x a b hx hx (seen_witness_is n L r x a ta) (seen_witness_is n L r x b tb) same;
    }
