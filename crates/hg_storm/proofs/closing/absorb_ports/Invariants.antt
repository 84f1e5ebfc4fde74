use Rattle.std.proofs.Common.{◌≡◌, ◌≤◌, length, drop}
use Rattle.hg_storm.proofs.BackLaws.{Gathering}
use Rattle.hg_storm.proofs.closing.absorb_ports.Given as goal

abbrev pub invariant-ports : goal.invariant-ports
invariant-ports l = record {
  within : l.k ≤ length l.fn.ports.items;
  rest : l.port-iterator.rest.items ≡ drop l.k l.fn.ports.items;
  gathering : Gathering l.k l.mailboxes l.fn.masters.items l.fn.ports.items l.masters.items;
}
