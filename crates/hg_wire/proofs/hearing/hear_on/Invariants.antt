use Rattle.std.proofs.Common.{◌≡◌, ◌-◌, ◌≤◌, List, ℕ, [], ◌++◌, drop, length}
use Rattle.hg_wire.specs.Ears.{IsOnward, IsWaiting, hears}
use Rattle.hg_wire.specs.Views.{state_of}
use Rattle.hg_wire.proofs.hearing.hear_on.Given as goal

abbrev pub invariant-fields : goal.invariant-fields
invariant-fields l = record {
  within : length l.rest ≤ length l.piece;
  behind : drop (length l.piece - length l.rest) l.piece ≡ l.rest;
  waits : IsWaiting l.h;
  empty : l.h.pending.items ≡ [];
  onward : IsOnward (state_of l.fn.h.progress) (state_of l.h.progress);
  same : (more : List ℕ) → hears l.h (l.rest ++ more) ≡ hears l.fn.h (l.left ++ more);
}

abbrev pub decreases-fields : goal.decreases-fields
decreases-fields l = length l.rest
