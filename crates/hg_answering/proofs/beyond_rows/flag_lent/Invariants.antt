use Rattle.std.proofs.Common.{◌≡◌, map, take}
use Rattle.hg_event.specs.Names.{lent_names}
use Rattle.hg_model.specs.Links.{place_of}
use Rattle.hg_node.specs.Beyond.{flagged}
use Rattle.hg_answering.proofs.beyond_rows.flag_lent.Given as goal

abbrev pub invariant-loop-name : goal.invariant-loop-name
invariant-loop-name l = l.flags ≡ flagged l.fn.flags (map (place_of l.graph.graph.rows) (lent_names (take l.name-index l.names)))
