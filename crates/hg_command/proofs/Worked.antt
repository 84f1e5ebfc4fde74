-- Worked command lines, computed: some that are taken, and some that are refused
use Rattle.std.proofs.Common.{◌≡◌, ℕ, List, [], ◌∷◌, ◌++◌, Option, Some, None, codes, refl}
use Rattle.clap.proofs.OnLiterals.{clap_on_literals}
use Rattle.clap.specs.Words.{Text}
use Rattle.hg_command.specs.Asked.{Asked, NodeFiles, ask, check, command, keep, make, prove, request_of, run, serve, storm, take}

-- the program's name and the command
abbrev play : List Text
play = codes "hashgraph" ∷ codes "run" ∷ []

abbrev members : List Text
members = codes "--members" ∷ codes "m.toml" ∷ []

abbrev script : List Text
script = codes "--script" ∷ codes "s.txt" ∷ []

abbrev workers : Text → List Text
workers count = codes "--workers" ∷ count ∷ []

-- a run over m.toml and s.txt
abbrev the_run : Option Asked
the_run = Some (run (record { members = codes "m.toml"; script = codes "s.txt"; workers = 0 }))

plain : request_of (play ++ members ++ script) ≡ the_run
unfolding clap_on_literals command
plain = refl

-- a number may have a sign and leading zeros
workers_signed : request_of (play ++ members ++ script ++ codes "--workers=-00" ∷ []) ≡ the_run
unfolding clap_on_literals command
workers_signed = refl

-- a name may be empty behind the sign, and have a dash there
odd_names : request_of (play ++ codes "--members=" ∷ codes "--script=-x" ∷ []) ≡ Some (run (record { members = []; script = codes "-x"; workers = 0 }))
unfolding clap_on_literals command
odd_names = refl

no_words : request_of [] ≡ None
unfolding clap_on_literals command
no_words = refl

no_command : request_of (codes "hashgraph" ∷ []) ≡ None
unfolding clap_on_literals command
no_command = refl

unknown_command : request_of (codes "hashgraph" ∷ codes "ran" ∷ members ++ script) ≡ None
unfolding clap_on_literals command
unknown_command = refl

no_members : request_of (play ++ script) ≡ None
unfolding clap_on_literals command
no_members = refl

no_value : request_of (play ++ members ++ codes "--script" ∷ []) ≡ None
unfolding clap_on_literals command
no_value = refl

dash_for_a_name : request_of (play ++ codes "--members" ∷ codes "-m" ∷ script) ≡ None
unfolding clap_on_literals command
dash_for_a_name = refl

too_many_workers : request_of (play ++ members ++ script ++ workers (codes "17")) ≡ None
unfolding clap_on_literals command
too_many_workers = refl

no_number : request_of (play ++ members ++ script ++ workers (codes "x")) ≡ None
unfolding clap_on_literals command
no_number = refl

script_twice : request_of (play ++ members ++ script ++ script) ≡ None
unfolding clap_on_literals command
script_twice = refl

word_left_over : request_of (play ++ members ++ script ++ codes "more" ∷ []) ≡ None
unfolding clap_on_literals command
word_left_over = refl

help : request_of (codes "hashgraph" ∷ codes "--help" ∷ []) ≡ None
unfolding clap_on_literals command
help = refl

-- ---- made input

abbrev makes : Text → Text → Text → List Text
makes members lines seed =
    codes "hashgraph" ∷ codes "make" ∷ codes "--members" ∷ members ∷ codes "--lines" ∷ lines ∷ codes "--seed" ∷ seed ∷ []

made_at_the_ends : request_of (makes (codes "128") (codes "1000000") (codes "18446744073709551615") ++ workers (codes "16"))
    ≡ Some (make (record { members = 128; lines = 1000000; seed = 18446744073709551615; workers = 16 }))
unfolding clap_on_literals command
made_at_the_ends = refl

too_many_lines : request_of (makes (codes "2") (codes "1000001") (codes "7")) ≡ None
unfolding clap_on_literals command
too_many_lines = refl

too_great_a_seed : request_of (makes (codes "2") (codes "3") (codes "18446744073709551616")) ≡ None
unfolding clap_on_literals command
too_great_a_seed = refl

-- ---- events kept in a journal

abbrev keeps : List Text
keeps = codes "hashgraph" ∷ codes "keep" ∷ members ++ codes "--events" ∷ codes "e.hex" ∷ codes "--own" ∷ codes "ada" ∷ codes "--disk" ∷ codes "d.bin" ∷ []

-- the events of e.hex, kept with this time
abbrev the_keep : Option ℕ → Option Asked
the_keep time =
    Some (keep (record { members = codes "m.toml"; events = codes "e.hex"; own = codes "ada"; disk = codes "d.bin"; time = time }))

abbrev time : Text → List Text
time t = codes "--time" ∷ t ∷ []

kept : request_of keeps ≡ the_keep None
unfolding clap_on_literals command
kept = refl

kept_at_the_end : request_of (keeps ++ time (codes "18446744073709551615")) ≡ the_keep (Some 18446744073709551615)
unfolding clap_on_literals command
kept_at_the_end = refl

-- ---- a node that gossips by files

abbrev own : List Text
own = codes "--own" ∷ codes "ada" ∷ []

abbrev ada : NodeFiles
ada = record { members = codes "m.toml"; script = codes "s.txt"; own = codes "ada" }

asks : request_of (codes "hashgraph" ∷ codes "ask" ∷ members ++ script ++ own) ≡ Some (ask ada)
unfolding clap_on_literals command
asks = refl

serves : request_of (codes "hashgraph" ∷ codes "serve" ∷ codes "--have" ∷ codes "h.bin" ∷ members ++ script ++ own) ≡ Some (serve ada (codes "h.bin"))
unfolding clap_on_literals command
serves = refl

takes : request_of (codes "hashgraph" ∷ codes "take" ∷ members ++ script ++ own ++ codes "--rows=r.bin" ∷ []) ≡ Some (take ada (codes "r.bin"))
unfolding clap_on_literals command
takes = refl

takes_no_names : request_of (codes "hashgraph" ∷ codes "take" ∷ members ++ script ++ own ++ codes "--have=h.bin" ∷ []) ≡ None
unfolding clap_on_literals command
takes_no_names = refl

-- ---- orders that are proved

proves : request_of (codes "hashgraph" ∷ codes "prove" ∷ own ++ members ++ script) ≡ Some (prove ada)
unfolding clap_on_literals command
proves = refl

checks : request_of (codes "hashgraph" ∷ codes "check" ∷ members ++ codes "--proof" ∷ codes "p.bin" ∷ []) ≡ Some (check (record { members = codes "m.toml"; proof = codes "p.bin" }))
unfolding clap_on_literals command
checks = refl

-- ---- storms

abbrev stormy : Text → List Text
stormy turns = codes "hashgraph" ∷ codes "storm" ∷ members ++ codes "--turns" ∷ turns ∷ []

abbrev seed : Text → List Text
seed number = codes "--seed" ∷ number ∷ []

abbrev room : Text → List Text
room number = codes "--room" ∷ number ∷ []

-- a storm of the members of m.toml
abbrev the_storm : ℕ → ℕ → ℕ → Option Asked
the_storm t s r = Some (storm (record { members = codes "m.toml"; turns = t; seed = s; room = r }))

storms : request_of (stormy (codes "0") ++ seed (codes "7")) ≡ the_storm 0 7 1024
unfolding clap_on_literals command
storms = refl

storms_at_the_ends : request_of (stormy (codes "10000") ++ seed (codes "18446744073709551615") ++ room (codes "65536")) ≡ the_storm 10000 18446744073709551615 65536
unfolding clap_on_literals command
storms_at_the_ends = refl

too_many_turns : request_of (stormy (codes "10001") ++ seed (codes "7")) ≡ None
unfolding clap_on_literals command
too_many_turns = refl

no_room : request_of (stormy (codes "1") ++ seed (codes "7") ++ room (codes "0")) ≡ None
unfolding clap_on_literals command
no_room = refl
