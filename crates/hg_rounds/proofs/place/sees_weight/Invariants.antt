use Rattle.std.proofs.Common.{◌≡◌, ◌≤◌, length, nat_le, take}
use Rattle.hg_rounds.specs.Tabled.{rows_weight, seen_weight}
use Rattle.hg_rounds.proofs.place.sees_weight.Given as goal

-- what is still missing is to be found among those that are left, and these weigh the rest
abbrev pub invariant-loop-missing : goal.invariant-loop-missing
invariant-loop-missing g l =
    let shape = g.S.Sight.shape l.sight in
    record {
      within : l.left ≤ length l.rows;
      rest : l.rest ≡ rows_weight shape (take l.left l.rows);
      settled : nat_le l.wanted (seen_weight shape l.x l.rows) ≡ nat_le l.missing (seen_weight shape l.x (take l.left l.rows));
    }

abbrev pub decreases-loop-missing : goal.decreases-loop-missing
decreases-loop-missing g l = l.left
