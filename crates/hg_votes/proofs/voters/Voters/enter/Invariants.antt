use Rattle.hg_model.specs.Orders.{IsPrefix}
use Rattle.hg_votes.specs.Counting.{HoldsVoters}
use Rattle.hg_votes.proofs.voters.Voters.enter.Given as goal

abbrev pub invariant-loop-y : goal.invariant-loop-y
invariant-loop-y g l = record {
  held : HoldsVoters (g.P.Prefix.graph l.p) l.y l.self;
  numbers : IsPrefix l.fn.self.numbers l.self.numbers;
  sets : IsPrefix l.fn.self.sets l.self.sets;
}
