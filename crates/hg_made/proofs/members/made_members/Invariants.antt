use Rattle.std.proofs.Common.{◌≡◌, ◌≤◌}
use Rattle.hg_model.specs.Places.{table}
use Rattle.hg_made.specs.Made.{made_member}
use Rattle.hg_made.proofs.members.made_members.Given as goal

abbrev pub invariant-loop-member : goal.invariant-loop-member
invariant-loop-member l = (l.entries.items ≡ table (made_member l.seed) l.member) × (l.member ≤ l.members)
