use Rattle.std.proofs.Common.{◌≡◌, ◌≤◌, ◌+◌, ◌*◌, ◌&&◌, not}
use Rattle.hg_model.specs.Places.{weight_below}
use Rattle.hg_bits.specs.Words.{has_bit}
use Rattle.hg_votes.specs.Slots.{slot_weight}
use Rattle.hg_votes.specs.Tallies.{stake_in}
use Rattle.hg_votes.proofs.tally.sum_slots.Given as goal

abbrev pub invariant-loop-slot : goal.invariant-loop-slot
invariant-loop-slot g l =
    let weight = slot_weight (stake_in (g.S.Sight.shape l.sight)) l.rows in
    record {
      yes : l.yes ≡ weight_below weight l.slot (λ i. has_bit l.voters i && has_bit l.voted i);
      no : l.no ≡ weight_below weight l.slot (λ i. has_bit l.voters i && not (has_bit l.voted i));
      low : l.yes + l.no ≤ 4294967295 * l.slot;
    }
