use Rattle.std.proofs.Common.{◌≡◌, ◌-◌, map}
use Rattle.hg_life.specs.NodeView.{node_rows}
use Rattle.hg_life.specs.Spelling.{spelling}
use Rattle.hg_answering.specs.Telling.{window}
use Rattle.hg_answering.proofs.telling.bytes_between.Given as goal

abbrev pub invariant-loop-x : goal.invariant-loop-x
invariant-loop-x g l = l.events.items ≡ window l.start (l.x - l.start) (map spelling (node_rows l.node))
