use Rattle.std.proofs.Common.{◌∙◌, ap}
use Rattle.clap.specs.Words.{Rule, app_of, with_rule}
use Rattle.hg_command.proofs.line.with_option.Goals as goal

pub returns-clause-app : goal.returns-clause-app
returns-clause-app c =
    c.in_ok-more.ensures.shape c.option_of.ensures.local
    ∙ ap (λ (r : Rule). with_rule (app_of c.args.command) r) c.option_of.ensures.rule
