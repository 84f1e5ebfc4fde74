-- The rows of the table of commands, as clap is told of them
use Rattle.std.specs.Prelude.{List, fold}
use Rattle.std.specs.Borrow.{Bor}
use Rattle.clap.specs.Words.{App, Rule, Text, new_app, with_rule, with_subcommand}
use Rattle.hg_command.specs.Line.{needed, number_option, text_option, wide_option}
use Rattle.hg_command.specs.declared.line.Takes.{Takes}
use Rattle.hg_command.specs.declared.line.Takes.TheVariants as takes

-- an option of this name that takes this
abbrev pub rule_as : Takes → Text → Rule
rule_as takes.Text name = needed (text_option name)
rule_as takes.Number name = number_option name
rule_as takes.Count name = needed (number_option name)
rule_as takes.Wide name = wide_option name
rule_as takes.Seed name = needed (wide_option name)

-- the name of an option, with what it takes
abbrev pub Choice : Type 0
Choice = Bor Text × Takes

-- a command with one more option
abbrev pub with_choice : App → Choice → App
with_choice app choice = with_rule app (rule_as choice.1 choice.0.now)

-- a command of this name with these options
abbrev pub app_by : Text → List Choice → App
app_by name options = fold with_choice (new_app name) options

-- the name of a command, with its options
abbrev pub Usage : Type 0
Usage = Bor Text × Bor (List Choice)

-- the program with one more command
abbrev pub with_usage : App → Usage → App
with_usage whole usage = with_subcommand whole (app_by usage.0.now usage.1.now).top
