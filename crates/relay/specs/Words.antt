-- What the words of a command line ask a relay for
use Rattle.std.specs.Prelude.{ℕ, Bool, List, [], ◌∷◌, Option, None, option_map, codes}
use Rattle.std.specs.Str.{bytes_eq}
use Rattle.clap.specs.Words.{App, Kinds, Row, Rule, Text, fault_of, first_of, new_app, subcommand_of, with_subcommand}
use Rattle.clap.specs.Simple.{on_top}
use Rattle.clap.specs.declared.builder.ValueParser.TheVariants.{Unsigned}
use Rattle.hg_command.specs.Asked.{number_in, text_in}
use Rattle.hg_command.specs.Line.{app_with, most_of_bits, needed, needs_a_command, parsed_option, text_option, wide_option}
use Rattle.relay.specs.declared.request.Request.{Request}

-- whether the relay asks first; the names of the member file, of the member, and of the journal's file; how many exchanges there
-- are, and the time of the first; the name of the file of the block, and that of a certificate's, if one is wanted
pub record Asked : Type 0 where
  pub asks_first : Bool
  pub members : Text
  pub own : Text
  pub disk : Text
  pub exchanges : ℕ
  pub time : ℕ
  pub block : Text
  pub proof : Option Text

-- a request, with its texts
abbrev pub asked : Request → Asked
asked r = record {
  asks_first = r.asks_first;
  members = r.members.now;
  own = r.own.now;
  disk = r.disk.now;
  exchanges = r.exchanges;
  time = r.time;
  block = r.block.now;
  proof = option_map (λ s. s.now) r.proof;
}

-- an option --NAME that must be given, and takes a number of 32 bits, without a sign
abbrev pub count_option : Text → Rule
count_option name = needed (parsed_option name (Unsigned 0 (most_of_bits 32)))

-- --members FILE --own NAME --disk FILE --exchanges N --time T --block FILE [--proof FILE]
abbrev pub options : List Rule
options =
    needed (text_option (codes "members")) ∷ needed (text_option (codes "own")) ∷ needed (text_option (codes "disk"))
    ∷ count_option (codes "exchanges") ∷ needed (wide_option (codes "time")) ∷ needed (text_option (codes "block"))
    ∷ text_option (codes "proof") ∷ []

-- the command of this name, as clap is told of it
abbrev pub command_named : Text → App
command_named name = app_with name options

-- one of the commands is required, and there is no word that asks for help
abbrev pub program : App
program = on_top needs_a_command (new_app (codes "relay"))

unfoldable pub command : App
command = with_subcommand (with_subcommand program (command_named (codes "ask")).top) (command_named (codes "serve")).top

-- what a command of this name asks for, by what its options were given
abbrev pub asked_by : Text × List Row → Asked
asked_by found = record {
  asks_first = bytes_eq found.0 (codes "ask");
  members = text_in (codes "members") found.1;
  own = text_in (codes "own") found.1;
  disk = text_in (codes "disk") found.1;
  exchanges = number_in 32 (codes "exchanges") found.1;
  time = number_in 64 (codes "time") found.1;
  block = text_in (codes "block") found.1;
  proof = first_of (codes "proof") found.1;
}

-- the second, unless there is a fault
abbrev pub unless_faulty : Kinds → Option Asked → Option Asked
unless_faulty [] found = found
unless_faulty (kind ∷ kinds) found = None

-- What the words ask for, the program's name first, where clap's definition finds no fault in them
abbrev pub request_of : List Text → Option Asked
request_of words = unless_faulty (fault_of command words) (option_map asked_by (subcommand_of command words))
