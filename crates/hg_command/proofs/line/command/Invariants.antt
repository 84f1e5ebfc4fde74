use Rattle.std.proofs.Common.{◌≡◌, false, fold, take}
use Rattle.clap.specs.Words.{app_of}
use Rattle.clap.specs.declared.builder.Command.TheViews.{out-Command}
use Rattle.hg_command.specs.Line.{program}
use Rattle.hg_command.specs.Table.{with_usage}
use Rattle.hg_command.proofs.line.command.Given as goal

abbrev pub invariant-loop-name : goal.invariant-loop-name
invariant-loop-name l = record {
  app : app_of l.whole ≡ fold with_usage program (take l.name-index l.name-items);
  local : (out-Command l.whole).has_globals ≡ false;
}
