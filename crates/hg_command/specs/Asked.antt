-- What the words of a command line ask for
use Rattle.std.specs.Prelude.{ℕ, String, Bool, true, false, ⊤, map, find, string_bytes, nat_le, ◌&&◌, ◌≤◌, List, [], ◌∷◌, Option, Some, None, option_map, option_and_then, unwrap_or, if◌then◌else◌, codes}
use Rattle.std.specs.Global.{Global}
use Rattle.std.specs.Str.{bytes_eq}
use Rattle.std.specs.Str.Parse.{digits_value, without_leading_plus}
use Rattle.clap.specs.Words.{App, Kinds, Row, Rule, Text, fault_of, first_of, one_of, subcommand_of}
use Rattle.clap.specs.ValueTests.{accepts}
use Rattle.clap.specs.declared.builder.ValueParser.TheVariants.{Unsigned}
use Rattle.hg_life.specs.Workers.{most_workers}
use Rattle.hg_command.specs.Line.{app_with, most_of_bits, needed, number_option, program_with, text_option, wide_option}
use Rattle.hg_command.specs.declared.request.CheckRequest.{CheckRequest}
use Rattle.hg_command.specs.declared.request.KeepRequest.{KeepRequest}
use Rattle.hg_command.specs.declared.request.MakeRequest.{MakeRequest}
use Rattle.hg_command.specs.declared.request.NodeRequest.{NodeRequest}
use Rattle.hg_command.specs.declared.request.Request.{Request}
use Rattle.hg_command.specs.declared.request.Request.TheVariants as request
use Rattle.hg_command.specs.declared.request.RunRequest.{RunRequest}
use Rattle.hg_command.specs.declared.request.StormRequest.{StormRequest}

-- ---- what may be asked for

-- a run over two files, with so many workers
pub record RunFiles : Type 0 where
  pub members : Text
  pub script : Text
  pub workers : ℕ

-- a run of so many members and lines, which are made from the seed
pub record MadeRun : Type 0 where
  pub members : ℕ
  pub lines : ℕ
  pub seed : ℕ
  pub workers : ℕ

-- the events of one file, kept in the journal of the member of that own name on a disk, with a time or without one
pub record KeepFiles : Type 0 where
  pub members : Text
  pub events : Text
  pub own : Text
  pub disk : Text
  pub time : Option ℕ

-- a script among the members of a file, and the own name of the member whose node is asked once the script was played
pub record NodeFiles : Type 0 where
  pub members : Text
  pub script : Text
  pub own : Text

-- so many turns of each node of a file's members, in threads, with draws that begin with the seed and mailboxes of so much room
pub record StormRun : Type 0 where
  pub members : Text
  pub turns : ℕ
  pub seed : ℕ
  pub room : ℕ

-- a certificate that is checked for the members
pub record CheckFiles : Type 0 where
  pub members : Text
  pub proof : Text

-- what a command asks for; `serve` and `take` name the file of a message beside
pub data Asked : Type 0 where
  run : RunFiles → Asked
  make : MadeRun → Asked
  keep : KeepFiles → Asked
  prove : NodeFiles → Asked
  check : CheckFiles → Asked
  storm : StormRun → Asked
  ask : NodeFiles → Asked
  serve : NodeFiles → Text → Asked
  take : NodeFiles → Text → Asked

-- requests, with their texts
abbrev pub run_files : RunRequest → RunFiles
run_files r = record { members = r.members.now; script = r.script.now; workers = r.workers }

abbrev pub made_run : MakeRequest → MadeRun
made_run r = record { members = r.members; lines = r.lines; seed = r.seed; workers = r.workers }

abbrev pub keep_files : KeepRequest → KeepFiles
keep_files r = record { members = r.members.now; events = r.events.now; own = r.own.now; disk = r.disk.now; time = r.time }

abbrev pub node_files : NodeRequest → NodeFiles
node_files r = record { members = r.members.now; script = r.script.now; own = r.own.now }

abbrev pub check_files : CheckRequest → CheckFiles
check_files r = record { members = r.members.now; proof = r.proof.now }

abbrev pub storm_run : StormRequest → StormRun
storm_run r = record { members = r.members.now; turns = r.turns; seed = r.seed; room = r.room }

abbrev pub asked : Request → Asked
asked (request.Run r) = run (run_files r)
asked (request.Make r) = make (made_run r)
asked (request.Keep r) = keep (keep_files r)
asked (request.Prove r) = prove (node_files r)
asked (request.Check r) = check (check_files r)
asked (request.Storm r) = storm (storm_run r)
asked (request.Ask r) = ask (node_files r)
asked (request.Serve r have) = serve (node_files r) have.now
asked (request.Take r rows) = take (node_files r) rows.now

-- the least and the greatest number of members that are made
abbrev pub least_members : ℕ
least_members = 2

abbrev pub most_members : ℕ
most_members = 128

-- the greatest number of lines that are made
abbrev pub most_lines : ℕ
most_lines = 1000000

-- the greatest number of turns, the room that a mailbox has unless one is asked for, and the greatest
abbrev pub most_turns : ℕ
most_turns = 10000

abbrev pub usual_room : ℕ
usual_room = 1024

abbrev pub most_room : ℕ
most_room = 65536

-- the numbers that are asked for lie in their ranges
abbrev pub KeepsRanges : Asked → Type 0
KeepsRanges (run r) = r.workers ≤ most_workers
KeepsRanges (make m) =
    (least_members ≤ m.members) × (m.members ≤ most_members) × (m.lines ≤ most_lines) × (m.workers ≤ most_workers)
KeepsRanges (storm s) = (s.turns ≤ most_turns) × (1 ≤ s.room) × (s.room ≤ most_room)
KeepsRanges _ = ⊤

-- whether they do
abbrev pub keeps_ranges : Asked → Bool
keeps_ranges (run r) = nat_le r.workers most_workers
keeps_ranges (make m) =
    nat_le least_members m.members && (nat_le m.members most_members && (nat_le m.lines most_lines && nat_le m.workers most_workers))
keeps_ranges (storm s) = nat_le s.turns most_turns && (nat_le 1 s.room && nat_le s.room most_room)
keeps_ranges _ = true

-- ---- what an option was given

-- the text that an option was given
abbrev pub text_in : Text → List Row → Text
text_in option rows = unwrap_or (first_of option rows) []

-- the number of so many bits that a text is, where it is one
abbrev pub text_number : ℕ → Text → Option ℕ
text_number bits text =
    if accepts false (Unsigned 0 (most_of_bits bits)) text then Some (digits_value 10 (without_leading_plus text)) else None

-- the number of so many bits that an option was given, if it was given one
abbrev pub maybe_number_in : ℕ → Text → List Row → Option ℕ
maybe_number_in bits option rows = option_and_then (text_number bits) (one_of option rows)

-- that number, and 0 where there is none
abbrev pub number_in : ℕ → Text → List Row → ℕ
number_in bits option rows = unwrap_or (maybe_number_in bits option rows) 0

-- the room that an option was given, and the usual one where there is none
abbrev pub room_in : Text → List Row → ℕ
room_in option rows = unwrap_or (maybe_number_in 32 option rows) usual_room

-- ---- the commands

-- a command: its name, its options, and what it asks for by what they were given
pub record Command : Type 0 where
  pub name : Text
  pub options : List Rule
  pub reads : List Row → Asked

-- run --members FILE --script FILE [--workers K]
abbrev pub run_command : Command
run_command = record {
  name = codes "run";
  options = needed (text_option (codes "members")) ∷ needed (text_option (codes "script")) ∷ number_option (codes "workers") ∷ [];
  reads = λ rows. run (record {
    members = text_in (codes "members") rows;
    script = text_in (codes "script") rows;
    workers = number_in 32 (codes "workers") rows;
  });
}

-- make --members N --lines L --seed S [--workers K]
abbrev pub make_command : Command
make_command = record {
  name = codes "make";
  options =
      needed (number_option (codes "members")) ∷ needed (number_option (codes "lines")) ∷ needed (wide_option (codes "seed"))
      ∷ number_option (codes "workers") ∷ [];
  reads = λ rows. make (record {
    members = number_in 32 (codes "members") rows;
    lines = number_in 32 (codes "lines") rows;
    seed = number_in 64 (codes "seed") rows;
    workers = number_in 32 (codes "workers") rows;
  });
}

-- keep --members FILE --events FILE --own NAME --disk FILE [--time T]
abbrev pub keep_command : Command
keep_command = record {
  name = codes "keep";
  options =
      needed (text_option (codes "members")) ∷ needed (text_option (codes "events")) ∷ needed (text_option (codes "own"))
      ∷ needed (text_option (codes "disk")) ∷ wide_option (codes "time") ∷ [];
  reads = λ rows. keep (record {
    members = text_in (codes "members") rows;
    events = text_in (codes "events") rows;
    own = text_in (codes "own") rows;
    disk = text_in (codes "disk") rows;
    time = maybe_number_in 64 (codes "time") rows;
  });
}

-- the options of a command that asks a member's node once a script was played, and these behind them
abbrev pub node_options : List Rule → List Rule
node_options more =
    needed (text_option (codes "members")) ∷ needed (text_option (codes "script")) ∷ needed (text_option (codes "own")) ∷ more

-- what they were given
abbrev pub node_given : List Row → NodeFiles
node_given rows = record {
  members = text_in (codes "members") rows;
  script = text_in (codes "script") rows;
  own = text_in (codes "own") rows;
}

-- prove --members FILE --script FILE --own NAME
abbrev pub prove_command : Command
prove_command = record { name = codes "prove"; options = node_options []; reads = λ rows. prove (node_given rows) }

-- check --members FILE --proof FILE
abbrev pub check_command : Command
check_command = record {
  name = codes "check";
  options = needed (text_option (codes "members")) ∷ needed (text_option (codes "proof")) ∷ [];
  reads = λ rows. check (record { members = text_in (codes "members") rows; proof = text_in (codes "proof") rows });
}

-- storm --members FILE --turns T --seed S [--room R]
abbrev pub storm_command : Command
storm_command = record {
  name = codes "storm";
  options =
      needed (text_option (codes "members")) ∷ needed (number_option (codes "turns")) ∷ needed (wide_option (codes "seed"))
      ∷ number_option (codes "room") ∷ [];
  reads = λ rows. storm (record {
    members = text_in (codes "members") rows;
    turns = number_in 32 (codes "turns") rows;
    seed = number_in 64 (codes "seed") rows;
    room = room_in (codes "room") rows;
  });
}

-- ask --members FILE --script FILE --own NAME
abbrev pub ask_command : Command
ask_command = record { name = codes "ask"; options = node_options []; reads = λ rows. ask (node_given rows) }

-- serve --members FILE --script FILE --own NAME --have FILE
abbrev pub serve_command : Command
serve_command = record {
  name = codes "serve";
  options = node_options (needed (text_option (codes "have")) ∷ []);
  reads = λ rows. serve (node_given rows) (text_in (codes "have") rows);
}

-- take --members FILE --script FILE --own NAME --rows FILE
abbrev pub take_command : Command
take_command = record {
  name = codes "take";
  options = node_options (needed (text_option (codes "rows")) ∷ []);
  reads = λ rows. take (node_given rows) (text_in (codes "rows") rows);
}

-- the commands of the program
abbrev pub commands : List Command
commands =
    run_command ∷ make_command ∷ keep_command ∷ prove_command ∷ check_command ∷ storm_command ∷ ask_command ∷ serve_command
    ∷ take_command ∷ []

-- a command as clap is told of it
abbrev pub app_for : Command → App
app_for c = app_with c.name c.options

unfoldable pub command : App
command = program_with (map app_for commands)

-- what a command of this name asks for, by what its options were given
abbrev pub asked_in : Text × List Row → Option Asked
asked_in found = option_map (λ c. c.reads found.1) (find (λ c. bytes_eq found.0 c.name) commands)

-- ---- the words

-- what was asked for, if its numbers lie in their ranges
abbrev pub within_ranges : Asked → Option Asked
within_ranges a = if keeps_ranges a then Some a else None

-- the second, unless there is a fault
abbrev pub unless_faulty : Kinds → Option Asked → Option Asked
unless_faulty [] found = found
unless_faulty (kind ∷ kinds) found = None

-- the words as texts
abbrev pub texts : List (String Global) → List Text
texts words = map string_bytes words

-- What the words ask for, the program's name first, where clap's definition finds no fault in them and their numbers lie in
-- their ranges
abbrev pub request_of : List Text → Option Asked
request_of words = option_and_then within_ranges (unless_faulty (fault_of command words) (option_and_then asked_in (subcommand_of command words)))
