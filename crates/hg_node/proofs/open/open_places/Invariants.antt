use Rattle.hg_node.specs.Opening.{is_open}
use Rattle.hg_node.proofs.OpenLaws.{OpensUpTo}
use Rattle.hg_node.proofs.open.open_places.Given as goal

abbrev pub invariant-loop-before : goal.invariant-loop-before
invariant-loop-before g l = OpensUpTo (g.P.Prefix.graph l.p) (is_open l.votes l.kept.published.marks l.share l.len) l.kept.published.closed l.before l.places.items
