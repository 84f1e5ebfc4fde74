use Rattle.std.proofs.Common.{arith}
use Rattle.std.proofs.lemmas.Grind.{common_steps}
use Rattle.hg_command.specs.Asked.{command}
use Rattle.hg_command.specs.Line.{program}
use Rattle.hg_command.specs.Table.{with_usage}
use Rattle.hg_command.proofs.Turns.{fold_turn}
use Rattle.hg_command.proofs.line.command.Goals as goal

pub loop-name-preserved : goal.loop-name-preserved
loop-name-preserved c = record {
  app = fold_turn with_usage program _ c.loop-name.name-index _ _ _ c.loop-name.invariant.app c.in_ok-whole.ensures.app (omega arith);
  local = c.in_ok-whole.ensures.local;
}

pub returns-clause-app : goal.returns-clause-app
unfolding command
returns-clause-app c = grind (arith, common_steps)
