use Rattle.std.proofs.Common.{None}
use Rattle.hg_model.specs.Fame.{fame_of}
use Rattle.hg_model.specs.Order.{coin_at}
use Rattle.hg_model.specs.Prefix.{links_of}
use Rattle.hg_plain_graph.specs.Tables.{IsTableOf}
use Rattle.hg_plain.proofs.fame.marks.Given as goal

abbrev pub invariant-loop-x : goal.invariant-loop-x
invariant-loop-x l = IsTableOf None (fame_of l.p.members l.p.coin (links_of l.p) (coin_at l.p.rows)) l.x l.marks.items
