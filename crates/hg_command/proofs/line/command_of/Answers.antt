use Rattle.std.proofs.Common.{arith}
use Rattle.clap.specs.Words.{new_app}
use Rattle.hg_command.specs.Table.{with_choice}
use Rattle.hg_command.proofs.Turns.{fold_turn}
use Rattle.hg_command.proofs.line.command_of.Goals as goal

pub loop-option-preserved : goal.loop-option-preserved
loop-option-preserved c = record {
  app = fold_turn with_choice (new_app c.args.name.now) c.args.options.now c.loop-option.option-index _ _ _ c.loop-option.invariant.app c.in_ok-command.ensures.app (omega arith);
  local = c.in_ok-command.ensures.local;
}
