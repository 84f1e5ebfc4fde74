use Rattle.std.proofs.Common.{◌≡◌, ◌<◌, ◌≤◌, ℕ, true, length}
use Rattle.hg_branches.specs.Firsts.{none_by}
use Rattle.hg_branches.specs.Landmarks.{landmark_at, IsWidened}
use Rattle.hg_branches.proofs.landmarks.widen_all.Given as goal

abbrev pub invariant-loop-i : goal.invariant-loop-i
invariant-loop-i l = record {
  len : length l.landmarks ≡ length l.initial.landmarks;
  done : (k : ℕ) → k < length l.initial.landmarks → IsWidened (landmark_at l.initial.landmarks k) (landmark_at l.landmarks k);
  wide : (k : ℕ) → k < l.i → (landmark_at l.landmarks k).none ≡ none_by true;
  left : (k : ℕ) → l.i ≤ k → landmark_at l.landmarks k ≡ landmark_at l.initial.landmarks k;
}
