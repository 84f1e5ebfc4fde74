use Rattle.std.proofs.Common.{◌≡◌, ◌+◌, ◌*◌, ◌≤◌, ap, refl, arith, length, slice_index, true}
use Rattle.std.specs.Int.{from_bool}
use Rattle.hg_model.specs.Stakes.{total}
use Rattle.hg_model.proofs.PlacesLaws.{weight_below_grows}
use Rattle.hg_bits.specs.Lanes.{is_at_least}
use Rattle.hg_bits.proofs.StakeLaws.{lane_next}
use Rattle.hg_bits.proofs.kernels.narrow.weigh_light_ge.Goals as goal

pub overflow_add-sum : goal.overflow_add-sum
unfolding total
overflow_add-sum c =
    let i = c.loop-i.i in
    let weight = slice_index c.args.weights.now in
    let test = is_at_least c.args.row.now c.args.other.now in
    let lane = ap (λ bit. weight i * bit) c.from.ensures in
    let next = lane_next weight i test in
    let within = weight_below_grows weight (i + 1) (length c.args.weights.now) test (λ _. true) (omega (arith, c.requires.weights)) (λ _ _ _. refl) in
    omega (arith, c.loop-i.invariant, lane, next, within, c.requires.light)
