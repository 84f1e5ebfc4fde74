use Rattle.std.proofs.Common.{◌≡◌, take}
use Rattle.check_graphs.proofs.plain.stakes_of.Given as goal

abbrev pub invariant-loop-member : goal.invariant-loop-member
invariant-loop-member l = l.stakes.items ≡ take l.member l.node.start.members
