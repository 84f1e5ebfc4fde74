use Rattle.std.proofs.Common.{◌≡◌, ◌++◌, ◌-◌, drop, map, take}
use Rattle.hg_life.specs.NodeView.{node_rows}
use Rattle.hg_life.specs.Spelling.{spelling}
use Rattle.hg_board.specs.Copies.{bytes_from}
use Rattle.hg_board.proofs.copies.bytes_from.Given as goal

abbrev pub invariant-loop-place : goal.invariant-loop-place
invariant-loop-place g l = l.rows.items ++ map spelling (take (l.end - l.place) (drop l.place (node_rows l.node))) ≡ bytes_from l.node l.from l.most
