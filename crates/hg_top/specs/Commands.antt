-- The commands: what each of them does, as a work
use Rattle.std.specs.Prelude.{ℕ, ◌≡◌, ⊤, List, Option, Some, None, Result, String, if◌then◌else◌, option_and_then}
use Rattle.std.specs.Global.{Global}
use Rattle.hg_life.specs.Members.{MemberList, has_node, member_named, names_of}
use Rattle.hg_life.specs.NodeView.{NodeView}
use Rattle.hg_outcome.specs.declared.outcome.Outcome.{Outcome}
use Rattle.hg_outcome.specs.Report.{report_text}
use Rattle.hg_members.specs.declared.fault.MemberFault.{MemberFault}
use Rattle.hg_members.specs.MemberFile.{members_of}
use Rattle.hg_script.specs.declared.fault.ScriptFault.{ScriptFault}
use Rattle.hg_script.specs.declared.line.Line.{Line}
use Rattle.hg_script.specs.Script.{lines_of}
use Rattle.hg_made.specs.Made.{generate}
use Rattle.hg_command.specs.Asked.{Asked, CheckFiles, KeepFiles, MadeRun, NodeFiles, RunFiles, StormRun, ask, check, keep, keep_files, make, node_files, prove, request_of, run, serve, storm, take, texts}
use Rattle.hg_command.specs.declared.request.KeepRequest.{KeepRequest}
use Rattle.hg_command.specs.declared.request.NodeRequest.{NodeRequest}
use Rattle.hg_certify.specs.Proving.{IsProofOf}
use Rattle.hg_certify.specs.Showing.{IsSafeBeside, ShowsTo, judged_by}
use Rattle.hg_certify.specs.Text.{shown_text}
use Rattle.hg_exchange.specs.declared.message.MessageFault.{MessageFault}
use Rattle.hg_exchange.specs.Exchanges.{IsAnswering, IsAsking, IsTakingText, played_node}
use Rattle.hg_exchange.specs.Messages.{message_of}
use Rattle.hg_io.specs.declared.disk.Disk as disk
use Rattle.hg_io.specs.declared.shelf.Shelf as shelf
use Rattle.hg_io.specs.declared.sink.Sink as sink
use Rattle.hg_keep.specs.Events.{events_of}
use Rattle.hg_keep.specs.declared.events.EventFault.{EventFault}
use Rattle.hg_play.specs.Agree.{IsAgreed}
use Rattle.hg_play.specs.Play.{IsSafePlay, end_blocks, play, summary}
use Rattle.hg_proof.specs.Certificate.{Certificate, certificate_bytes}
use Rattle.hg_proof.specs.declared.why.Why.{Why}
use Rattle.hg_report.specs.Heads.{heads_text}
use Rattle.hg_report.specs.Summary.{summary_text}
use Rattle.hg_storm.specs.declared.outcome.Storm.{Storm}
use Rattle.hg_storm.specs.Storm.{IsStorm}
use Rattle.hg_wire.specs.declared.message.Message.{Message}
use Rattle.hg_wire.specs.declared.message.Want.{Want}
use Rattle.hg_wire.specs.declared.message.Want.TheVariants.{Have, Rows}
use Rattle.hg_world.specs.World.{Secrets, WorldView}
use Rattle.hg_top.specs.declared.exchanging.Exchange.{Exchange}
use Rattle.hg_top.specs.declared.exchanging.Exchange.TheVariants.{Ask, Serve, Take}
use Rattle.hg_top.specs.declared.status.File.TheVariants as file
use Rattle.hg_top.specs.declared.status.Refusal.TheVariants.{Fault}
use Rattle.hg_top.specs.declared.status.Status.{Status}
use Rattle.hg_top.specs.declared.status.Status.TheVariants.{Usage, Members, Own, Script, Events, Proof, Wire}
use Rattle.hg_top.specs.Ends.{EndsOnDisk}
use Rattle.hg_top.specs.Work.{Work, takes}
use Rattle.hg_top.specs.Work.Work.{Writes, Stops, Keeps}

-- ---- the files

-- the statuses of a member file, of a script, of a file of events, of a proof and of a message that have a fault
abbrev pub bad_members : MemberFault → Status
bad_members fault = Members (Fault fault)

abbrev pub bad_script : ScriptFault → Status
bad_script fault = Script (Fault fault)

abbrev pub bad_events : EventFault → Status
bad_events fault = Events (Fault fault)

abbrev pub bad_proof : Why → Status
bad_proof why = Proof (Fault why)

abbrev pub bad_message : MessageFault → Status
bad_message fault = Wire (Fault fault)

-- the member file of this name, and next with its members
abbrev pub members_work : List ℕ → (MemberList → Work) → Work
members_work name next = takes file.Members bad_members members_of name next

-- the lines that a script's bytes are for these members and so many workers, or their first fault
abbrev pub lines_for : MemberList → ℕ → List ℕ → Result (List Line) ScriptFault
lines_for members workers bytes = lines_of bytes members workers

-- the script of this name for these members and so many workers, and next with its lines
abbrev pub lines_work : List ℕ → MemberList → ℕ → (List Line → Work) → Work
lines_work name members workers next = takes file.Script bad_script (lines_for members workers) name next

-- the file of events of this name, and next with its events
abbrev pub events_work : List ℕ → (List (List ℕ) → Work) → Work
events_work name next = takes file.Events bad_events events_of name next

-- the proof of this name, for these members, and next with what it shows
abbrev pub shown_work : List ℕ → MemberList → (Certificate → Work) → Work
shown_work name members next = takes file.Proof bad_proof (judged_by members) name next

-- the file of this name, which is to be one message of this kind, and next with it
abbrev pub message_work : Want → List ℕ → (Message → Work) → Work
message_work want name next = takes file.Message bad_message (message_of want) name next

-- ---- run

-- What a run writes: the report of the play of these lines. The run of their steps is safe, and so is what the report shows: no two
-- of its orders part ways, where the dishonest members have less than a third of the stake and names do not collide. With
-- workers it is the run without the marks that they give, which change nothing that is written.
pub record IsReportOf (members : MemberList) (lines : List Line) (text : List ℕ) : Type 0 where
  pub is : text ≡ report_text (play members lines)
  pub safe : IsSafePlay members lines
  pub agreed : IsAgreed members lines

-- the report is written
abbrev pub report_work : MemberList → List Line → Work
report_work members lines = Writes (IsReportOf members lines)

-- reads the script and writes the report
abbrev pub script_work : List ℕ → ℕ → MemberList → Work
script_work name workers members = lines_work name members workers (report_work members)

-- reads the member file, then the script
abbrev pub run_work : RunFiles → Work
run_work r = members_work r.members (script_work r.script r.workers)

-- ---- make

-- the members and the lines that are made
abbrev pub made_by : MadeRun → MemberList × List Line
made_by m = generate m.seed m.members m.lines

-- The text is the summary of the play of the lines that are made. The run of their steps is safe: where the dishonest
-- members have less than a third of the stake and names do not collide, of the orders that any two nodes keep at any two
-- moments one is a prefix of the other.
pub record IsSummaryOf (m : MadeRun) (text : List ℕ) : Type 0 where
  pub is : text ≡ summary_text (summary (made_by m).0 (made_by m).1)
  pub safe : IsSafePlay (made_by m).0 (made_by m).1

-- the summary is written, and no file is read
abbrev pub make_work : MadeRun → Work
make_work m = Writes (IsSummaryOf m)

-- ---- keep

-- a number of a member that has a node
abbrev pub if_node : MemberList → ℕ → Option ℕ
if_node members m = if has_node members m then Some m else None

-- the member of this name, if it has a node
abbrev pub own_in : MemberList → List ℕ → Option ℕ
own_in members name = option_and_then (if_node members) (member_named members name)

-- the events are put to the node of this member
abbrev pub node_work : KeepFiles → MemberList → ℕ → List (List ℕ) → Work
node_work k members own events =
    Keeps (record { journal = k.disk; members = members; own = own; events = events; time = k.time })

-- reads the file of events, where there is such a member
abbrev pub own_work : KeepFiles → MemberList → Option ℕ → Work
own_work k members None = Stops Own
own_work k members (Some own) = events_work k.events (node_work k members own)

-- reads the member file, then the file of events, and then the journal
abbrev pub keep_work : KeepFiles → Work
keep_work k = members_work k.members (λ members. own_work k members (own_in members k.own))

-- what `keep` was asked for
abbrev pub keep_for : KeepRequest → Work
keep_for r = keep_work (keep_files r)

-- how a call ended that put the events to the node of this member: a shelf F, standard output K and a disk W, each before
-- and after
abbrev pub OwnKeepEnds : {S T D : Type 0} → shelf.Ghosts S → sink.Ghosts T → disk.Ghosts D → S → S → T → T → D → D → KeepRequest → MemberList → ℕ → Status → Type 0
OwnKeepEnds F K W s t out written before after r members own status =
    EndsOnDisk F K W s t out written before after (own_work (keep_files r) members (Some own)) status

-- ---- prove

-- where there is such a member
abbrev pub if_own : Option ℕ → (ℕ → Work) → Work
if_own None next = Stops Own
if_own (Some own) next = next own

-- reads the script, and the certificate of the order of this member's node is written
abbrev pub certificate_work : List ℕ → MemberList → ℕ → Work
certificate_work script members own = lines_work script members 0 (λ lines. Writes (IsProofOf members lines own))

-- reads the member file, then the script
abbrev pub prove_work : NodeFiles → Work
prove_work f = members_work f.members (λ members. if_own (own_in members f.own) (certificate_work f.script members))

-- ---- check

-- The text tells what is shown. Bytes that show the members a graph of signed events and its whole order spell this; and the
-- order and that of any node never part, in a run in which this graph counts as a further one.
pub record IsAnswerOf (members : MemberList) (shown : Certificate) (text : List ℕ) : Type 0 where
  pub is : text ≡ shown_text shown
  pub shows : ShowsTo members (certificate_bytes shown) shown
  pub safe : IsSafeBeside members shown

-- it is written
abbrev pub answer_work : MemberList → Certificate → Work
answer_work members shown = Writes (IsAnswerOf members shown)

-- reads the member file, then the proof
abbrev pub check_work : CheckFiles → Work
check_work c = members_work c.members (λ list. shown_work c.proof list (answer_work list))

-- ---- storm

-- the block of each node of a world, by its graph's own fame, as `show` prints it
abbrev pub shown_world : MemberList → WorldView → Outcome
shown_world members w = record { names = names_of members; printed = end_blocks members w }

-- These are the blocks of the nodes after a storm of so many turns, room and seed. What its members did and sent, and what came
-- of it, is told of the storm; no two of its nodes' orders part ways, where the dishonest members have less than a third of the
-- stake and names do not collide.
pub record IsStormOutcome (r : StormRun) (members : MemberList) (o : Outcome) : Type 0 where
  pub one : Storm
  pub is : IsStorm members r.turns r.room r.seed one
  pub shows : o ≡ shown_world members one.world

-- the text has the first lines of such blocks. It is not told by the words: threads may run in many ways
pub record IsStormText (r : StormRun) (members : MemberList) (text : List ℕ) : Type 0 where
  pub outcome : Outcome
  pub came : IsStormOutcome r members outcome
  pub is : text ≡ heads_text outcome

-- it is written
abbrev pub heads_work : StormRun → MemberList → Work
heads_work r members = Writes (IsStormText r members)

-- reads the member file
abbrev pub storm_work : StormRun → Work
storm_work r = members_work r.members (heads_work r)

-- ---- ask, serve and take

-- what the node v of one of these members asks, after a script
abbrev pub ask_work : MemberList → NodeView Secrets → Work
ask_work members v = Writes (IsAsking v)

-- what it answers to the message in the file of this name
abbrev pub serve_work : List ℕ → MemberList → NodeView Secrets → Work
serve_work have members v = message_work Have have (λ m. Writes (IsAnswering v m))

-- what comes of the message in the file of this name, once it took it
abbrev pub take_work : List ℕ → MemberList → NodeView Secrets → Work
take_work rows members v = message_work Rows rows (λ m. Writes (IsTakingText members v m))

-- reads the script, and next with the member's node once it was played without workers
abbrev pub play_work : List ℕ → (MemberList → NodeView Secrets → Work) → MemberList → ℕ → Work
play_work script next members own = lines_work script members 0 (λ lines. next members (played_node members lines own))

-- reads the member file, then the script, and what next reads
abbrev pub played_work : NodeFiles → (MemberList → NodeView Secrets → Work) → Work
played_work f next = members_work f.members (λ members. if_own (own_in members f.own) (play_work f.script next members))

-- what a node does
abbrev pub exchange_work : Exchange → MemberList → NodeView Secrets → Work
exchange_work Ask = ask_work
exchange_work (Serve have) = serve_work have.now
exchange_work (Take rows) = take_work rows.now

-- .. once these lines were played, or the script of this name, or that of a request
abbrev pub serve_after : MemberList → List Line → ℕ → List ℕ → Work
serve_after members lines own have = serve_work have members (played_node members lines own)

abbrev pub take_after : MemberList → List Line → ℕ → List ℕ → Work
take_after members lines own rows = take_work rows members (played_node members lines own)

abbrev pub exchange_by : MemberList → ℕ → List ℕ → Exchange → Work
exchange_by members own script exchange = play_work script (exchange_work exchange) members own

abbrev pub exchange_for : NodeRequest → Exchange → Work
exchange_for r exchange = played_work (node_files r) (exchange_work exchange)

-- ---- all commands

-- the work that was asked for; words that are not accepted have their status
abbrev pub work_of : Option Asked → Work
work_of None = Stops Usage
work_of (Some (run r)) = run_work r
work_of (Some (make m)) = make_work m
work_of (Some (keep k)) = keep_work k
work_of (Some (prove f)) = prove_work f
work_of (Some (check c)) = check_work c
work_of (Some (storm r)) = storm_work r
work_of (Some (ask f)) = played_work f ask_work
work_of (Some (serve f have)) = played_work f (serve_work have)
work_of (Some (take f rows)) = played_work f (take_work rows)

-- nothing of it is done to a disk
abbrev pub KeepsNothing : Option Asked → Type 0
KeepsNothing (Some (keep k)) = ⊥
KeepsNothing _ = ⊤

-- what the words of a command line ask for, where they are accepted
abbrev pub asks : List (String Global) → Option Asked
asks words = request_of (texts words)

-- the work that these words ask for
abbrev pub work_for : List (String Global) → Work
work_for words = work_of (asks words)
