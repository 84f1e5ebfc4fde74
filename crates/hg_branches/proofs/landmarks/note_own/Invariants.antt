use Rattle.std.proofs.Common.{◌≡◌, ◌<◌, ◌≤◌, ◌-◌, ℕ, length}
use Rattle.hg_model.specs.Counts.{numbers_of}
use Rattle.hg_branches.specs.Landmarks.{landmark_at, noted}
use Rattle.hg_branches.proofs.landmarks.note_own.Given as goal

abbrev pub invariant-loop-from : goal.invariant-loop-from
invariant-loop-from l = record {
  len : length l.landmarks ≡ length l.fn.landmarks;
  within : l.from ≤ length (numbers_of l.counts);
  done : (i : ℕ) → i < length l.fn.landmarks → (landmark_at l.fn.landmarks i).branch < l.from → landmark_at l.landmarks i ≡ noted (numbers_of l.counts) l.next (landmark_at l.fn.landmarks i);
  left : (i : ℕ) → l.from ≤ (landmark_at l.fn.landmarks i).branch → landmark_at l.landmarks i ≡ landmark_at l.fn.landmarks i;
}

abbrev pub decreases-loop-from : goal.decreases-loop-from
decreases-loop-from l = length (numbers_of l.counts) - l.from

abbrev pub invariant-loop-c : goal.invariant-loop-c
invariant-loop-c l = record {
  len : length l.landmarks ≡ length l.fn.landmarks;
  done : (i : ℕ) → i < length l.fn.landmarks → (landmark_at l.fn.landmarks i).branch < l.c → landmark_at l.landmarks i ≡ noted (numbers_of l.counts) l.next (landmark_at l.fn.landmarks i);
  left : (i : ℕ) → l.c ≤ (landmark_at l.fn.landmarks i).branch → landmark_at l.landmarks i ≡ landmark_at l.fn.landmarks i;
}
