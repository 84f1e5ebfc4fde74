use Rattle.std.proofs.Common.{◌≡◌, ◌≤◌, count_by, length, nat_le, take}
use Rattle.hg_model.specs.Seeing.{strongly_sees}
use Rattle.hg_rounds.proofs.place.sees_count.Given as goal

-- those that are still missing are to be found among those that are left
abbrev pub invariant-loop-missing : goal.invariant-loop-missing
invariant-loop-missing g l =
    let shape = g.S.Sight.shape l.sight in
    let seen = strongly_sees shape.members shape.links l.x in
    record {
      within : l.left ≤ length l.rows;
      settled : nat_le l.wanted (count_by seen l.rows) ≡ nat_le l.missing (count_by seen (take l.left l.rows));
    }

abbrev pub decreases-loop-missing : goal.decreases-loop-missing
decreases-loop-missing g l = l.left
