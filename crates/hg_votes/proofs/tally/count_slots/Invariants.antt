use Rattle.std.proofs.Common.{◌≡◌, ◌*◌, ◌&&◌, not}
use Rattle.hg_model.specs.Places.{count_below}
use Rattle.hg_bits.specs.Words.{has_bit}
use Rattle.hg_votes.proofs.tally.count_slots.Given as goal

abbrev pub invariant-loop-k : goal.invariant-loop-k
invariant-loop-k l = record {
  yes : l.yes ≡ count_below (64 * l.k) (λ i. has_bit l.voters i && has_bit l.voted i);
  no : l.no ≡ count_below (64 * l.k) (λ i. has_bit l.voters i && not (has_bit l.voted i));
}
