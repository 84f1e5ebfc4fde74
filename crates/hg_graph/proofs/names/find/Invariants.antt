use Rattle.std.proofs.Common.{◌≡◌, ◌<◌, ◌≤◌, ◌-◌, ◌+◌, ℕ, cond, nat_lt, length}
use Rattle.hg_model.specs.Graph.{name_at}
use Rattle.hg_graph.specs.Names.{IsFound}
use Rattle.hg_graph.proofs.names.find.Given as goal

abbrev pub invariant-down : goal.invariant-down
invariant-down l = record {
  inside : l.number ≤ length l.hashed;
  found : (x : ℕ) → x < length l.events.items → name_at l.events.items x ≡ l.name → IsFound l.hashed x l.number l.digits;
}

abbrev pub decreases-down : goal.decreases-down
decreases-down l = cond (nat_lt 0 l.number) (length l.hashed + 1 - l.number) 0
