use Rattle.std.proofs.Common.{◌∙◌, ap}
use Rattle.clap.specs.Words.{App, app_of, with_subcommand}
use Rattle.hg_command.proofs.line.with_command.Goals as goal

pub returns-clause-app : goal.returns-clause-app
returns-clause-app c =
    c.in_ok-more.ensures.shape c.in_ok-command_of.ensures.local
    ∙ ap (λ (a : App). with_subcommand (app_of c.args.program) a.top) c.in_ok-command_of.ensures.app
