-- What it is to be a witness of a round that a row strongly sees
use Rattle.std.proofs.Common.{◌≡◌, ℕ, true, ◌&&◌, eqb, List}
use Rattle.std.proofs.lemmas.Bool.{and_parts, and_from, eq-eqb, eqb-true}
use Rattle.hg_model.specs.Stakes.{Stakes}
use Rattle.hg_model.specs.Links.{Link}
use Rattle.hg_model.specs.Seeing.{strongly_sees}
use Rattle.hg_model.specs.Rounds.{is_witness_by, is_seen_witness, round_of, is_witness}

-- w is a witness of round r that x strongly sees
pub record SeenWitness (n : Stakes) (L : List Link) (r x w : ℕ) : Type 0 where
  pub is_witness : is_witness n L w ≡ true
  pub in_round : round_of n L w ≡ r
  pub seen : strongly_sees n L x w ≡ true

pub seen_witness_is : (n : Stakes) (L : List Link) (r x w : ℕ) → is_seen_witness (round_of n L) n L r x w ≡ true → SeenWitness n L r x w
unfolding is_witness
seen_witness_is n L r x w h =
    let witness = is_witness_by (round_of n L) L w in
    let here = eqb (round_of n L w) r in
    let one = and_parts (witness && here) (strongly_sees n L x w) h in
    let two = and_parts witness here one.0 in
    record { is_witness = two.0; in_round = eqb-true (round_of n L w) r two.1; seen = one.1 }

pub is_seen_witness_from : (n : Stakes) (L : List Link) (r x w : ℕ) → SeenWitness n L r x w → is_seen_witness (round_of n L) n L r x w ≡ true
unfolding is_witness
is_seen_witness_from n L r x w s =
    let witness = is_witness_by (round_of n L) L w in
    let here = eqb (round_of n L w) r in
    and_from (witness && here) (strongly_sees n L x w) (and_from witness here s.is_witness (eq-eqb (round_of n L w) r s.in_round)) s.seen
