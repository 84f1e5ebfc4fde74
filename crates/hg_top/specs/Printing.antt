-- What a status is to the outside: a line on standard error, and an exit status
use Rattle.std.specs.Prelude.{ℕ, ◌⊎◌, List, ◌++◌, codes}
use Rattle.std.specs.Fmt.{decimal}
use Rattle.hg_certify.specs.Text.{why_text as reason_text}
use Rattle.hg_io.specs.Bytes.{Appends, AppendsPart}
use Rattle.hg_io.specs.Faults.{Rose}
use Rattle.hg_io.specs.declared.sink.Sink as sink
use Rattle.hg_exchange.specs.declared.message.MessageFault.{MessageFault}
use Rattle.hg_exchange.specs.Text.{message_fault_text}
use Rattle.hg_keep.specs.declared.events.EventFault.{EventFault}
use Rattle.hg_members.specs.declared.fault.MemberFault.{MemberFault}
use Rattle.hg_members.specs.Text.{member_fault_text}
use Rattle.hg_outcome.specs.Report.{byte_fault_text}
use Rattle.hg_proof.specs.declared.why.Why.{Why}
use Rattle.hg_script.specs.declared.fault.ScriptFault.{ScriptFault}
use Rattle.hg_script.specs.Text.{why_text}
use Rattle.hg_top.specs.declared.status.File.TheVariants as file
use Rattle.hg_top.specs.declared.status.JournalFault.{JournalFault}
use Rattle.hg_top.specs.declared.status.JournalFault.TheVariants.{Foreign, Broken}
use Rattle.hg_top.specs.declared.status.NoWords.{NoWords}
use Rattle.hg_top.specs.declared.status.NoWords.TheVariants as no_words
use Rattle.hg_top.specs.declared.status.NoWords.TheVariants.{NotText}
use Rattle.hg_top.specs.declared.status.Refusal.{Refusal}
use Rattle.hg_top.specs.declared.status.Refusal.TheVariants.{TooLong, Fault}
use Rattle.hg_top.specs.declared.status.Status.{Status}
use Rattle.hg_top.specs.declared.status.Status.TheVariants.{Done, ReadFault, Usage, Members, Own, Script, Events, WriteFault, Memory, Disk, Journal, Proof, Wire}

-- the lines that tell what is wrong with a file
abbrev pub members_line : Refusal MemberFault → List ℕ
members_line TooLong = codes "hashgraph: members: too-long\n"
members_line (Fault f) = codes "hashgraph: members: " ++ (member_fault_text f ++ codes "\n")

abbrev pub script_line : Refusal ScriptFault → List ℕ
script_line TooLong = codes "hashgraph: script: too-long\n"
script_line (Fault f) = codes "hashgraph: script line " ++ (decimal f.line ++ (codes ": " ++ (why_text f.why ++ codes "\n")))

abbrev pub events_line : Refusal EventFault → List ℕ
events_line TooLong = codes "hashgraph: events: too-long\n"
events_line (Fault f) =
    codes "hashgraph: event at " ++ (decimal f.at ++ (codes ": " ++ (byte_fault_text f.fault ++ codes "\n")))

-- .. this word and this number
abbrev pub wire_pair : List ℕ → ℕ → List ℕ
wire_pair word number = codes "hashgraph: wire: " ++ (word ++ (decimal number ++ codes "\n"))

abbrev pub wire_line : Refusal MessageFault → List ℕ
wire_line TooLong = codes "hashgraph: wire: too-long\n"
wire_line (Fault f) = codes "hashgraph: wire: " ++ (message_fault_text f ++ codes "\n")

-- the line that tells what is wrong with a journal
abbrev pub journal_line : JournalFault → List ℕ
journal_line Foreign = codes "hashgraph: journal: foreign\n"
journal_line (Broken at) = codes "hashgraph: journal: broken " ++ (decimal at ++ codes "\n")

-- the line that tells why a proof shows nothing
abbrev pub proof_line : Refusal Why → List ℕ
proof_line TooLong = codes "hashgraph: proof: too-long\n"
proof_line (Fault why) = codes "hashgraph: proof: " ++ (reason_text why ++ codes "\n")

-- the line that a status writes to standard error
abbrev pub status_line : Status → List ℕ
status_line Done = codes ""
status_line (ReadFault file.Members) = codes "hashgraph: cannot read the member file\n"
status_line (ReadFault file.Script) = codes "hashgraph: cannot read the script\n"
status_line (ReadFault file.Events) = codes "hashgraph: cannot read the event file\n"
status_line (ReadFault file.Proof) = codes "hashgraph: cannot read the proof file\n"
status_line (ReadFault file.Message) = codes "hashgraph: cannot read the message file\n"
status_line Usage = codes "hashgraph: usage: run --members FILE --script FILE [--workers K] or make --members N --lines L --seed S [--workers K] or keep --members FILE --events FILE --own NAME --disk FILE [--time T] or prove --members FILE --script FILE --own NAME or check --members FILE --proof FILE or storm --members FILE --turns T --seed S [--room R] or ask --members FILE --script FILE --own NAME or serve --members FILE --script FILE --own NAME --have FILE or take --members FILE --script FILE --own NAME --rows FILE\n"
status_line (Members refusal) = members_line refusal
status_line Own = codes "hashgraph: members: own\n"
status_line (Script refusal) = script_line refusal
status_line (Events refusal) = events_line refusal
status_line WriteFault = codes "hashgraph: cannot write\n"
status_line Memory = codes "hashgraph: out of memory\n"
status_line Disk = codes "hashgraph: disk\n"
status_line (Journal fault) = journal_line fault
status_line (Proof refusal) = proof_line refusal
status_line (Wire refusal) = wire_line refusal

-- the line was written whole to a sink E, or a front of it, where the count of faults rose
abbrev pub IsPrintedOn : {S : Type 0} → sink.Ghosts S → S → S → List ℕ → Type 0
IsPrintedOn E before after line =
    Appends (E.written before) (E.written after) line
    ⊎ (AppendsPart (E.written before) (E.written after) line × Rose (E.faults before) (E.faults after))

-- what a call comes to whose words could not be read
abbrev pub status_without : NoWords → Status
status_without NotText = Usage
status_without no_words.Memory = Memory

-- the exit status of the program
abbrev pub status_code : Status → ℕ
status_code Done = 0
status_code (ReadFault f) = 1
status_code Usage = 2
status_code (Members refusal) = 3
status_code Own = 3
status_code (Script refusal) = 4
status_code (Events refusal) = 4
status_code WriteFault = 5
status_code Memory = 6
status_code Disk = 7
status_code (Journal fault) = 8
status_code (Proof refusal) = 9
status_code (Wire refusal) = 10
