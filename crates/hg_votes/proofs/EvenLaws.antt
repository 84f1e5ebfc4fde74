-- What slots weigh where all members have one stake
use Rattle.std.proofs.Common.{◌≡◌, ◌∙◌, ◌*◌, ◌<◌, ◌&&◌, ℕ, Bool, true, List, length, get_or, ap, sym}
use Rattle.std.specs.List.{AllByRecursion}
use Rattle.std.proofs.Math.Nat.{mul_comm}
use Rattle.std.proofs.lemmas.Bool.{and_parts}
use Rattle.std.proofs.lemmas.List.Elements.{All-from_recursion}
use Rattle.hg_model.specs.Places.{count_below, weight_below}
use Rattle.hg_model.specs.Stakes.{AllWeigh}
use Rattle.hg_model.specs.Shape.{Shape}
use Rattle.hg_model.specs.GraphWords.{IsShapedIn}
use Rattle.hg_model.proofs.StakeLaws.{weight_below-even}
use Rattle.hg_bits.specs.Words.{has_bit}
use Rattle.hg_votes.specs.Slots.{slot_weight}
use Rattle.hg_votes.specs.Tallies.{stake_in}

-- those of the voters that pass weigh as many times the stake as they are
pub even_slots : (shape : Shape) → IsShapedIn shape → (stake : ℕ) → AllWeigh shape.members stake → (rows voters : List ℕ) → AllByRecursion (λ w. w < length shape.links) rows →
    ((i : ℕ) → has_bit voters i ≡ true → i < length rows) → (passes : ℕ → Bool) (count : ℕ) → count ≡ count_below (64 * length voters) (λ i. has_bit voters i && passes i) →
    count * stake ≡ weight_below (slot_weight (stake_in shape) rows) (64 * length voters) (λ i. has_bit voters i && passes i)
even_slots shape shaped stake even rows voters places within passes count is =
    let test : ℕ → Bool = λ i. has_bit voters i && passes i in
    ap (λ k. k * stake) is
    ∙ (mul_comm (count_below (64 * length voters) test) stake
    ∙ sym (weight_below-even (slot_weight (stake_in shape) rows) stake (64 * length voters) test (λ k below both.
    let slot : k < length rows = within k (and_parts (has_bit voters k) (passes k) both).0 in
    even _ (shaped.members (get_or rows k 0) (All-from_recursion (λ w. w < length shape.links) rows places k 0 slot)))))
