use Rattle.hg_model.specs.Rounds.{stake_at}
use Rattle.hg_plain_graph.specs.Tables.{IsTableOf}
use Rattle.hg_plain.proofs.prefix.row_stakes.Given as goal

abbrev pub invariant-loop-x : goal.invariant-loop-x
invariant-loop-x l = IsTableOf 0 (stake_at l.sight.members l.sight.links) l.x l.stakes.items
