use Rattle.std.proofs.Common.{◌≡◌, ◌∙◌, ap, false}
use Rattle.clap.specs.Words.{AddsArg, App, Rule, app_of, rule_of, with_rule}
use Rattle.clap.specs.declared.builder.command.Command.{Command}
use Rattle.clap.specs.declared.builder.arg.Arg.{Arg}
use Rattle.relay.proofs.request.relay_command.Goals as goal

-- the command with one more of its options
with_added : (old new : Command) (option : Arg) (app : App) (rule : Rule) → AddsArg old option new → app_of old ≡ app
    → rule_of option ≡ rule → option.global ≡ false → app_of new ≡ with_rule app rule
with_added old new option app rule added app_is rule_is local =
    added.shape local ∙ ap (λ (a : App). with_rule a (rule_of option)) app_is ∙ ap (λ (r : Rule). with_rule app r) rule_is

pub returns-clause-app : goal.returns-clause-app
returns-clause-app c =
    let one = with_added _ _ _ _ _ c.in_ok-arg.ensures c.new.ensures.app c.text_option.ensures.rule c.text_option.ensures.local in
    let two = with_added _ _ _ _ _ c.in_ok-arg-2.ensures one c.text_option-2.ensures.rule c.text_option-2.ensures.local in
    let three = with_added _ _ _ _ _ c.in_ok-arg-3.ensures two c.text_option-3.ensures.rule c.text_option-3.ensures.local in
    let four = with_added _ _ _ _ _ c.in_ok-arg-4.ensures three c.count_option.ensures.rule c.count_option.ensures.local in
    let five = with_added _ _ _ _ _ c.in_ok-arg-5.ensures four c.time_option.ensures.rule c.time_option.ensures.local in
    let six = with_added _ _ _ _ _ c.in_ok-arg-6.ensures five c.text_option-4.ensures.rule c.text_option-4.ensures.local in
    with_added _ _ _ _ _ c.in_ok-relay.ensures six c.maybe_option.ensures.rule c.maybe_option.ensures.local
