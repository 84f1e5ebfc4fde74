use Rattle.std.proofs.Common.{◌≡◌, ◌≢◌, ◌<◌, ◌≤◌, ◌-◌, ℕ, length}
use Rattle.hg_branches.specs.Landmarks.{landmark_at, noted_once}
use Rattle.hg_branches.proofs.landmarks.note_branch.Given as goal

abbrev pub invariant-chain : goal.invariant-chain
invariant-chain l = record {
  inside : l.number ≤ length l.initial.landmarks;
  len : length l.landmarks ≡ length l.initial.landmarks;
  on : 0 < l.number → (landmark_at l.initial.landmarks (l.number - 1)).branch ≡ l.c;
  done : (i : ℕ) → l.number ≤ i → i < length l.initial.landmarks → (landmark_at l.initial.landmarks i).branch ≡ l.c → landmark_at l.landmarks i ≡ noted_once l.count l.next (landmark_at l.initial.landmarks i);
  left : (i : ℕ) → i < l.number → landmark_at l.landmarks i ≡ landmark_at l.initial.landmarks i;
  off : (i : ℕ) → (landmark_at l.initial.landmarks i).branch ≢ l.c → landmark_at l.landmarks i ≡ landmark_at l.initial.landmarks i;
}

abbrev pub decreases-chain : goal.decreases-chain
decreases-chain l = l.number
