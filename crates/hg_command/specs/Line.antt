-- The shape of a command line, as clap's definition describes it
use Rattle.std.specs.Prelude.{ℕ, pos, true, Some, List, fold, codes, ◌^◌, ◌-◌}
use Rattle.clap.specs.Words.{App, Rule, Shape, Text, new_app, new_rule, with_rule, with_subcommand}
use Rattle.clap.specs.Simple.{on_top}
use Rattle.clap.specs.declared.builder.ValueParser.{ValueParser}
use Rattle.clap.specs.declared.builder.ValueParser.TheVariants.{Signed, Unsigned}

-- an option --NAME that takes any value
abbrev pub text_option : Text → Rule
text_option name = record (new_rule name) { long = Some name }

-- an option --NAME that takes what passes the parser
abbrev pub parsed_option : Text → ValueParser → Rule
parsed_option name parser = record (text_option name) { parser = Some parser }

-- the greatest number of so many bits
abbrev pub most_of_bits : ℕ → ℕ
most_of_bits bits = 2 ^ bits - 1

-- an option --NAME that takes a whole number of 32 bits, and one that takes a wide number, of 64 bits
abbrev pub number_option : Text → Rule
number_option name = parsed_option name (Signed (pos 0) (pos (most_of_bits 32)))

abbrev pub wide_option : Text → Rule
wide_option name = parsed_option name (Unsigned 0 (most_of_bits 64))

-- an option that must be given
abbrev pub needed : Rule → Rule
needed r = record r { required = true }

-- a command of this name with these options
abbrev pub app_with : Text → List Rule → App
app_with name options = fold with_rule (new_app name) options

-- one of the commands is required, and there is no word that asks for help
abbrev pub needs_a_command : Shape → Shape
needs_a_command s = record s { subcommand_required = true; disable_help_flag = true; disable_help_subcommand = true }

abbrev pub program : App
program = on_top needs_a_command (new_app (codes "hashgraph"))

-- the program with each of these commands
abbrev pub program_with : List App → App
program_with apps = fold (λ whole app. with_subcommand whole app.top) program apps
