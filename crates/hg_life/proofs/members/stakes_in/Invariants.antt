use Rattle.std.proofs.Common.{◌≡◌, map, take}
use Rattle.hg_life.specs.declared.members.MemberEntry.{MemberEntry}
use Rattle.hg_life.proofs.members.stakes_in.Given as goal

abbrev pub invariant-loop-entry : goal.invariant-loop-entry
invariant-loop-entry l = l.stakes.items ≡ map (λ (e : MemberEntry). e.stake) (take l.entry-index l.entries)
