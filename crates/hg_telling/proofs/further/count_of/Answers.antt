use Rattle.std.proofs.Common.{sym}
use Rattle.hg_telling.proofs.LineLaws.{count_balances, count_digits, count_entries, count_ordered, count_refused}
use Rattle.hg_telling.proofs.further.count_of.Goals as goal

pub returns-in-Members : goal.returns-in-Members
returns-in-Members c = rw (c.in-Members.is, c.entries.ensures.value) (sym (count_entries c.args.members.now.entries))

pub returns-in-Heads : goal.returns-in-Heads
returns-in-Heads c = rw (c.in-Heads.is, c.as_slice.ensures) (sym (count_digits _))

pub returns-in-Beyond : goal.returns-in-Beyond
returns-in-Beyond c = rw (c.in-Beyond.is, c.as_slice-in-Beyond.ensures) (sym (count_digits _))

pub returns-in-Events : goal.returns-in-Events
returns-in-Events c = rw (c.in-Events.is, c.as_slice-in-Events.ensures) (sym (count_digits _))

pub returns-in-Put : goal.returns-in-Put
returns-in-Put c = rw (c.in-Put.is, c.as_slice-in-Put.ensures) (sym (count_refused _))

pub returns-in-Restored : goal.returns-in-Restored
returns-in-Restored c = rw (c.in-Restored.is, c.as_slice-in-Restored.ensures) (sym (count_refused _))

pub returns-in-Order : goal.returns-in-Order
returns-in-Order c = rw (c.in-Order.is, c.as_slice-in-Order.ensures) (sym (count_ordered _ _ _))

pub returns-in-Balances : goal.returns-in-Balances
returns-in-Balances c = rw (c.in-Balances.is, c.as_slice-in-Balances.ensures) (sym (count_balances _ _ _))

pub returns-in-Proof : goal.returns-in-Proof
returns-in-Proof c = rw (c.in-Proof.is, c.cut_count.ensures, c.as_slice-in-Proof.ensures) (sym (count_digits _))
