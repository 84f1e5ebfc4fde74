use Rattle.std.proofs.Common.{◌≡◌, ◌∙◌, ap, ap₂, false}
use Rattle.clap.specs.Words.{AddsSubcommand, App, app_of, with_subcommand}
use Rattle.clap.specs.declared.builder.command.Command.{Command}
use Rattle.clap.specs.declared.builder.Command.TheViews.{out-Command}
use Rattle.relay.specs.Words.{command}
use Rattle.relay.proofs.request.command.Goals as goal

-- the program with one more of its commands
with_added : (old sub new : Command) (whole app : App) → AddsSubcommand old sub new → app_of old ≡ whole → app_of sub ≡ app
    → (out-Command sub).has_globals ≡ false → app_of new ≡ with_subcommand whole app.top
with_added old sub new whole app added whole_is app_is local =
    added.shape local ∙ ap₂ with_subcommand whole_is (ap (λ (a : App). a.top) app_is)

pub returns-clause-app : goal.returns-clause-app
unfolding command
returns-clause-app c =
    let ask = with_added _ _ _ _ _ c.in_ok-subcommand.ensures c.program.ensures.app c.in_ok-ask.ensures.app c.in_ok-ask.ensures.local in
    with_added _ _ _ _ _ c.in_ok-whole.ensures ask c.in_ok-serve.ensures.app c.in_ok-serve.ensures.local
