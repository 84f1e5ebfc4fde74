use Rattle.std.proofs.Common.{◌≡◌, map, take}
use Rattle.hg_life.specs.declared.members.MemberEntry.{MemberEntry}
use Rattle.hg_pay.proofs.book.Book.new.Given as goal

abbrev pub invariant-loop-entry : goal.invariant-loop-entry
invariant-loop-entry l = l.balances.items ≡ map (λ (e : MemberEntry). e.balance) (take l.entry-index l.entries)
