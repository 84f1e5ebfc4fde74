use Rattle.std.proofs.Common.{◌≡◌, map, take}
use Rattle.hg_model.specs.Links.{link_in}
use Rattle.hg_plain_graph.proofs.links.links_of.Given as goal

abbrev pub invariant-loop-row : goal.invariant-loop-row
invariant-loop-row l = l.links.items ≡ map (link_in l.rows) (take l.row-index l.rows)
