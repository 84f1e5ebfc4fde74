use Rattle.std.proofs.Common.{◌≡◌, map, take}
use Rattle.hg_model.specs.Links.{place_of}
use Rattle.hg_node.specs.Beyond.{flagged}
use Rattle.hg_answering.proofs.beyond_rows.flag_all.Given as goal

abbrev pub invariant-loop-name : goal.invariant-loop-name
invariant-loop-name l = l.flags ≡ flagged l.fn.flags (map (place_of l.graph.graph.rows) (take l.name-index l.names))
