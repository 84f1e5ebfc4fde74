use Rattle.std.proofs.Common.{◌≡◌, map, take}
use Rattle.hg_life.specs.declared.members.MemberEntry.{MemberEntry}
use Rattle.hg_play.proofs.outcomes.names.Given as goal

abbrev pub invariant-loop-entry : goal.invariant-loop-entry
invariant-loop-entry l = l.names.items ≡ map (λ (e : MemberEntry). e.name) (take l.entry-index l.entry-items)
