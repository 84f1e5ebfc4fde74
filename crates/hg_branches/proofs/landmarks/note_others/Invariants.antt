use Rattle.std.proofs.Common.{◌≡◌, ◌<◌, ◌≤◌, ◌-◌, ℕ, length}
use Rattle.hg_branches.specs.Landmarks.{landmark_at, noted}
use Rattle.hg_branches.proofs.landmarks.note_others.Given as goal

abbrev pub invariant-loop-c : goal.invariant-loop-c
invariant-loop-c l = record {
  len : length l.landmarks ≡ length l.initial.landmarks;
  done : (i : ℕ) → i < length l.initial.landmarks → l.counts.members ≤ (landmark_at l.initial.landmarks i).branch → (landmark_at l.initial.landmarks i).branch < l.c →
      landmark_at l.landmarks i ≡ noted l.counts.row l.next (landmark_at l.initial.landmarks i);
  left : (i : ℕ) → l.c ≤ (landmark_at l.initial.landmarks i).branch → landmark_at l.landmarks i ≡ landmark_at l.initial.landmarks i;
  own : (i : ℕ) → (landmark_at l.initial.landmarks i).branch < l.counts.members → landmark_at l.landmarks i ≡ landmark_at l.initial.landmarks i;
  past : l.counts.members ≤ l.c;
}

abbrev pub decreases-loop-c : goal.decreases-loop-c
decreases-loop-c l = length l.newest - l.c
