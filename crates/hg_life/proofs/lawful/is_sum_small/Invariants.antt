use Rattle.std.proofs.Common.{◌≡◌, ◌≤◌, ◌*◌, ◌^◌, sum_by, take}
use Rattle.hg_life.specs.declared.members.MemberEntry.{MemberEntry}
use Rattle.hg_life.proofs.lawful.is_sum_small.Given as goal

abbrev pub invariant-loop-entry : goal.invariant-loop-entry
invariant-loop-entry l =
    (l.sum ≡ sum_by (λ (e : MemberEntry). e.balance) (take l.entry-index l.entries)) × (l.sum ≤ l.entry-index * 2 ^ 64)
