use Rattle.std.proofs.Common.{◌≡◌, ◌≤◌, ◌+◌, ◌*◌, not, take, slice_index}
use Rattle.hg_model.specs.Among.{weight_among}
use Rattle.hg_votes.specs.Tallies.{vote_at}
use Rattle.hg_votes.proofs.tally.count_votes.Given as goal

abbrev pub invariant-loop-w : goal.invariant-loop-w
invariant-loop-w l = record {
  yes : l.yes ≡ weight_among (slice_index l.stakes) (vote_at l.ballots) (take l.w-index l.voters);
  no : l.no ≡ weight_among (slice_index l.stakes) (λ w. not (vote_at l.ballots w)) (take l.w-index l.voters);
  low : l.yes + l.no ≤ 4294967295 * l.w-index;
}
