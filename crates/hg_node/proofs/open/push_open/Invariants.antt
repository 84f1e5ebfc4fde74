use Rattle.std.proofs.Common.{◌≡◌, ◌++◌, take}
use Rattle.std.specs.Prelude.{filter}
use Rattle.hg_node.specs.Opening.{is_open}
use Rattle.hg_node.proofs.open.push_open.Given as goal

abbrev pub invariant-loop-x : goal.invariant-loop-x
invariant-loop-x l = l.places.items ≡ l.fn.places.items ++ filter (is_open l.votes l.kept.published.marks l.share l.len) (take l.x-index l.witnesses)
