use Rattle.std.proofs.Common.{◌≡◌, map, take}
use Rattle.hg_life.specs.declared.members.MemberEntry.{MemberEntry}
use Rattle.hg_sign.proofs.table.keys_of.Given as goal

abbrev pub invariant-loop-entry : goal.invariant-loop-entry
invariant-loop-entry l = l.keys.items ≡ map (λ (e : MemberEntry). e.secret) (take l.entry-index l.entries)
