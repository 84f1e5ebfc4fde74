use Rattle.hg_model.specs.Rounds.{round_of}
use Rattle.hg_plain_graph.specs.Tables.{IsTableOf}
use Rattle.hg_plain_graph.proofs.rounds.rounds_of.Given as goal

abbrev pub invariant-loop-x : goal.invariant-loop-x
invariant-loop-x l = IsTableOf 0 (round_of l.seeing.members l.seeing.links) l.x l.rounds.items
