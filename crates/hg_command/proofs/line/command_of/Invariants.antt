use Rattle.std.proofs.Common.{◌≡◌, false, take}
use Rattle.clap.specs.Words.{app_of}
use Rattle.clap.specs.declared.builder.Command.TheViews.{out-Command}
use Rattle.hg_command.specs.Table.{app_by}
use Rattle.hg_command.proofs.line.command_of.Given as goal

abbrev pub invariant-loop-option : goal.invariant-loop-option
invariant-loop-option l = record {
  app : app_of l.command ≡ app_by l.fn.name (take l.option-index l.fn.options);
  local : (out-Command l.command).has_globals ≡ false;
}
