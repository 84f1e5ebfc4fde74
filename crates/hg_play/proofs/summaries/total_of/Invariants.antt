use Rattle.std.proofs.Common.{◌≡◌, ◌≤◌, ◌*◌, take}
use Rattle.std.specs.List.{sum}
use Rattle.hg_play.proofs.summaries.total_of.Given as goal

abbrev pub invariant-loop-balance : goal.invariant-loop-balance
invariant-loop-balance l = (l.total ≡ sum (take l.balance-index l.balances)) × (l.total ≤ l.balance-index * 18446744073709551615)
