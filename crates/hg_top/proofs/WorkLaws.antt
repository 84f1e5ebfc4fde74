-- Laws that hold of all works
use Rattle.std.proofs.Common.{◌≡◌, ◌<◌, ◌≤◌, ℕ, false, List, Option, Some, None, length, inl, inr, refl, sym, ◌∙◌, subst, arith}
use Rattle.std.specs.Prelude.{Result, Ok, Err, ⊤}
use Rattle.hg_io.specs.Faults.{raised}
use Rattle.hg_io.specs.Files.{Files}
use Rattle.hg_io.specs.Printing.{Prints}
use Rattle.hg_io.specs.declared.disk.Disk as disk
use Rattle.hg_io.specs.declared.shelf.Shelf as shelf
use Rattle.hg_io.specs.declared.sink.Sink as sink
use Rattle.hg_top.specs.declared.status.File.{File}
use Rattle.hg_top.specs.declared.status.Status.{Status}
use Rattle.hg_top.specs.declared.status.Status.TheVariants.{Done, ReadFault, Usage, Members, Own, Script, Events, WriteFault, Memory, Disk, Journal, Proof, Wire}
use Rattle.hg_top.specs.Course.{Course, DiskCourse, Has, HasMore, HasWithin, IsIdle, IsQuiet, SinkCourse, StartsOne, Tells, course, disk_course, no_disk, reading, sink_course}
use Rattle.hg_top.specs.Ends.{Comes, Completes, Ends, IsTaken, StopsAt, StopsIn}
use Rattle.hg_top.specs.Work.{KeepWork, Work, limit_of, nothing_more, takes, unless_faulty}
use Rattle.hg_top.specs.Work.Work.{Writes, Stops, Reads, Keeps}
use Rattle.hg_top.specs.Keeps.{IsKeptText, KeepEnds}
use Rattle.hg_top.specs.Writing.{Wrote, WroteOn, delivered, may_write, status_of}
use Rattle.hg_members.specs.MemberFile.{members_of}
use Rattle.hg_certify.specs.Proving.{IsProofOf}
use Rattle.hg_certify.specs.Showing.{judged_by}
use Rattle.hg_exchange.specs.Exchanges.{IsAnswering, IsTakingText, played_node}
use Rattle.hg_exchange.specs.Messages.{message_of}
use Rattle.hg_life.specs.Members.{MemberList}
use Rattle.hg_life.specs.NodeView.{NodeView}
use Rattle.hg_wire.specs.declared.exchange.Delivery.{Delivery}
use Rattle.hg_wire.specs.declared.exchange.Delivery.TheVariants as delivery
use Rattle.hg_wire.specs.declared.message.Message.{Message}
use Rattle.hg_wire.specs.declared.message.Want.TheVariants.{Have, Rows}
use Rattle.hg_wire.specs.Exchange.{Delivers}
use Rattle.hg_wire.specs.Grammar.{message_bytes}
use Rattle.hg_world.specs.World.{Secrets}
use Rattle.hg_top.specs.declared.exchanging.Exchange.{Exchange}
use Rattle.hg_top.specs.declared.exchanging.Exchange.TheVariants.{Ask, Serve, Take}
use Rattle.hg_top.specs.Commands.{answer_work, bad_members, bad_message, bad_proof, bad_script, certificate_work, check_work, exchange_work, heads_work, if_own, lines_for, own_in, play_work, played_work, prove_work, report_work, run_work, script_work, shown_work, storm_work, work_of}
use Rattle.hg_top.proofs.KeepLaws.{completes_keep, idle_disk, spares_still}
use Rattle.hg_command.specs.Asked.{Asked, CheckFiles, NodeFiles, RunFiles, StormRun}

-- ---- what holds of each work

-- memory may run out before the first step
pub comes_short : (work : Work) (c : Course) (starts : ℕ) → IsQuiet c starts → Comes work c starts Memory
comes_short (Writes Is) c starts quiet = quiet
comes_short (Stops why) c starts quiet = (inr refl, quiet)
comes_short (Reads file name next) c starts quiet = inl (refl, quiet)
comes_short (Keeps k) c starts quiet = (quiet.0, quiet.1, inr (tt, quiet.2.0), spares_still k c.disk quiet.2.0 quiet.2.1)

-- and this is never against what must come of a work
completes_short : (work : Work) (c : Course) → Completes work c Memory
completes_short (Writes Is) c = λ fine. inr refl
completes_short (Stops why) c = inr refl
completes_short (Reads file name next) c = λ bytes tells fine. (λ more. inr refl, λ within. completes_short (next bytes) c)
completes_short (Keeps k) c = λ written kept bytes told. inr refl

some_is : {A : Type 0} (x y : A) → (let a : Option A = Some x in a) ≡ Some y → x ≡ y
some_is x y same = cc

-- what a shelf has under a name is what it tells of it
same_bytes : (holds : Option Files) (name bytes others : List ℕ) → Has holds name bytes → Tells holds name others → bytes ≡ others
same_bytes None name bytes others has tells = absurd tells
same_bytes (Some files) name bytes others has tells = some_is bytes others (sym has ∙ tells)

-- so it is no less than what was found too much
more_bytes : (holds : Option Files) (name bytes : List ℕ) (limit : ℕ) → HasMore holds name limit → Tells holds name bytes → limit < length bytes
more_bytes None name bytes limit more tells = absurd tells
more_bytes (Some files) name bytes limit more tells = rw tells at more

completes_text : (Is : List ℕ → Type 0) (c : Course) (starts : ℕ) (status : Status) → Comes (Writes Is) c starts status → Completes (Writes Is) c status
completes_text Is c starts Done comes fine = inl refl
completes_text Is c starts Memory comes fine = inr refl
completes_text Is c starts WriteFault comes fine = absurd (fine comes.1.0)
completes_text Is c starts (ReadFault file) comes fine = absurd comes.1
completes_text Is c starts Usage comes fine = absurd comes.1
completes_text Is c starts (Members refusal) comes fine = absurd comes.1
completes_text Is c starts Own comes fine = absurd comes.1
completes_text Is c starts (Script refusal) comes fine = absurd comes.1
completes_text Is c starts (Events refusal) comes fine = absurd comes.1
completes_text Is c starts Disk comes fine = absurd comes.1
completes_text Is c starts (Journal why) comes fine = absurd comes.1
completes_text Is c starts (Proof refusal) comes fine = absurd comes.1
completes_text Is c starts (Wire refusal) comes fine = absurd comes.1

completes_file : (file : File) (name : List ℕ) (next : List ℕ → Work) (c : Course) (status : Status) → StopsAt c file name status → Completes (Reads file name next) c status
completes_file file name next c status (inl fault) = λ bytes tells fine. absurd (fine fault.1)
completes_file file name next c status (inr (inl long)) = λ bytes tells fine. (
  λ more. inl long.0,
  λ within. absurd (let more = more_bytes c.shelf.holds name bytes (limit_of file) long.1 tells in omega (arith, more, within)),
)
completes_file file name next c status (inr (inr short)) = subst (Completes (Reads file name next) c) (sym short) (completes_short (Reads file name next) c)

-- what came of a work is what must come of it
pub completes : (work : Work) (c : Course) (starts : ℕ) (status : Status) → Comes work c starts status → Completes work c status
completes (Writes Is) c starts status comes = completes_text Is c starts status comes
completes (Stops why) c starts status comes = comes.0
completes (Keeps k) c starts status comes = completes_keep k c status comes.1
completes (Reads file name next) c starts status (inl short) = subst (Completes (Reads file name next) c) (sym short.0) (completes_short (Reads file name next) c)
completes (Reads file name next) c starts status (inr (inl stops)) = completes_file file name next c status stops.0
completes (Reads file name next) c starts status (inr (inr read)) = λ bytes tells fine. (
  λ more. absurd (let same = same_bytes c.shelf.holds name read.0 bytes read.1.1 tells in let within = rw same at read.1.0 in omega (arith, more, within)),
  λ within. subst (λ (b : List ℕ). Completes (next b) c status) (same_bytes c.shelf.holds name read.0 bytes read.1.1 tells)
      (completes (next read.0) c (raised starts) status read.2),
)

-- ---- a status at which nothing was written

wrote_none : (Is : List ℕ → Type 0) (o : SinkCourse) (status : Status) → Wrote Is o status → may_write status ≡ false → o.same
wrote_none Is o Done wrote none = absurd (grind arith)
wrote_none Is o WriteFault wrote none = absurd (grind arith)
wrote_none Is o Memory wrote none = wrote
wrote_none Is o (ReadFault file) wrote none = absurd wrote
wrote_none Is o Usage wrote none = absurd wrote
wrote_none Is o (Members refusal) wrote none = absurd wrote
wrote_none Is o Own wrote none = absurd wrote
wrote_none Is o (Script refusal) wrote none = absurd wrote
wrote_none Is o (Events refusal) wrote none = absurd wrote
wrote_none Is o Disk wrote none = absurd wrote
wrote_none Is o (Journal why) wrote none = absurd wrote
wrote_none Is o (Proof refusal) wrote none = absurd wrote
wrote_none Is o (Wire refusal) wrote none = absurd wrote

kept_none : (k : KeepWork) (d : DiskCourse) (o : SinkCourse) (status : Status) → KeepEnds k d o status → may_write status ≡ false → o.same
kept_none k d o Disk ends none = ends.0
kept_none k d o (Journal why) ends none = ends.0
kept_none k d o Done ends none = wrote_none (IsKeptText k d) o Done ends none
kept_none k d o WriteFault ends none = wrote_none (IsKeptText k d) o WriteFault ends none
kept_none k d o Memory ends none = wrote_none (IsKeptText k d) o Memory ends none
kept_none k d o (ReadFault file) ends none = wrote_none (IsKeptText k d) o (ReadFault file) ends none
kept_none k d o Usage ends none = wrote_none (IsKeptText k d) o Usage ends none
kept_none k d o (Members refusal) ends none = wrote_none (IsKeptText k d) o (Members refusal) ends none
kept_none k d o Own ends none = wrote_none (IsKeptText k d) o Own ends none
kept_none k d o (Script refusal) ends none = wrote_none (IsKeptText k d) o (Script refusal) ends none
kept_none k d o (Events refusal) ends none = wrote_none (IsKeptText k d) o (Events refusal) ends none
kept_none k d o (Proof refusal) ends none = wrote_none (IsKeptText k d) o (Proof refusal) ends none
kept_none k d o (Wire refusal) ends none = wrote_none (IsKeptText k d) o (Wire refusal) ends none

-- then nothing was done to standard output
pub unwritten : (work : Work) (c : Course) (starts : ℕ) (status : Status) → Comes work c starts status → may_write status ≡ false → c.out.same
unwritten (Writes Is) c starts status comes none = wrote_none Is c.out status comes.1 none
unwritten (Stops why) c starts status comes none = comes.1.1
unwritten (Keeps k) c starts status comes none = kept_none k c.disk c.out status comes.1 none
unwritten (Reads file name next) c starts status (inl short) none = short.1.1
unwritten (Reads file name next) c starts status (inr (inl stops)) none = stops.1.1
unwritten (Reads file name next) c starts status (inr (inr read)) none = unwritten (next read.0) c (raised starts) status read.2 none

-- ---- from one work to another

-- where nothing more was done, memory ran out
short_of : (c : Course) (starts : ℕ) (status : Status) → Comes nothing_more c starts status → (status ≡ Memory) × IsQuiet c starts
short_of c starts Memory comes = (refl, comes)
short_of c starts Done comes = absurd comes.1.1
short_of c starts WriteFault comes = absurd comes.1.2.1
short_of c starts (ReadFault file) comes = absurd comes.1
short_of c starts Usage comes = absurd comes.1
short_of c starts (Members refusal) comes = absurd comes.1
short_of c starts Own comes = absurd comes.1
short_of c starts (Script refusal) comes = absurd comes.1
short_of c starts (Events refusal) comes = absurd comes.1
short_of c starts Disk comes = absurd comes.1
short_of c starts (Journal why) comes = absurd comes.1
short_of c starts (Proof refusal) comes = absurd comes.1
short_of c starts (Wire refusal) comes = absurd comes.1

-- so it does not matter what would have been
pub stops_before : (work : Work) (c : Course) (starts : ℕ) (status : Status) → Comes nothing_more c starts status → Comes work c starts status
stops_before work c starts status comes =
    let short = short_of c starts status comes in
    subst (Comes work c starts) (sym short.0) (comes_short work c starts short.1)

-- .. nor what standard output and the disk are, to which nothing was done
stops_beside : (work : Work) (c : Course) (o : SinkCourse) (d : DiskCourse) (starts : ℕ) (status : Status) → o.same → IsIdle d →
    Comes nothing_more c starts status → Comes work (record c { out = o; disk = d }) starts status
stops_beside work c o d starts status same idle comes =
    let short = short_of c starts status comes in
    let beside = record c { out = o; disk = d } in
    subst (Comes work beside starts) (sym short.0) (comes_short work beside starts (short.1.0, same, idle))

-- a file that is read, if what follows may be exchanged
pub reads_for : (file : File) (name : List ℕ) (next others : List ℕ → Work) (c : Course) (starts : ℕ) (status : Status) →
    ((bytes : List ℕ) → Comes (next bytes) c (raised starts) status → Comes (others bytes) c (raised starts) status) →
    Comes (Reads file name next) c starts status → Comes (Reads file name others) c starts status
reads_for file name next others c starts status change (inl short) = inl short
reads_for file name next others c starts status change (inr (inl stops)) = inr (inl stops)
reads_for file name next others c starts status change (inr (inr read)) = inr (inr (read.0, read.1, change read.0 read.2))

-- a file that gave no bytes, whatever would have been done with them
pub reads_none : {S : Type 0} (F : shelf.Ghosts S) (s t : S) (file : File) (name : List ℕ) (next : List ℕ → Work) (status : Status) →
    StopsIn F s t (Reads file name (λ bytes. nothing_more)) status → StopsIn F s t (Reads file name next) status
reads_none F s t file name next status stops =
    let c = reading F s t in
    reads_for file name (λ bytes. nothing_more) next c c.shelf.starts_before status (λ bytes. stops_before (next bytes) c (raised c.shelf.starts_before) status) stops

-- bytes with a fault, whatever standard output and the disk are
faulty_beside : {A F : Type 0} (stop : F → Status) (read : Result A F) (next : A → Work) (c : Course) (o : SinkCourse) (d : DiskCourse) (starts : ℕ) (status : Status) →
    o.same → IsIdle d → Comes (unless_faulty stop read (λ x. nothing_more)) c starts status → Comes (unless_faulty stop read next) (record c { out = o; disk = d }) starts status
faulty_beside stop (Ok x) next c o d starts status same idle comes = stops_beside (next x) c o d starts status same idle comes
faulty_beside stop (Err fault) next c o d starts status same idle comes = (comes.0, (comes.1.0, same, idle))

-- ---- from a call without a disk to one with a disk

-- no work is done on a node
abbrev pub Diskless : Work → Type 0
Diskless (Writes Is) = ⊤
Diskless (Stops why) = ⊤
Diskless (Reads file name next) = (bytes : List ℕ) → Diskless (next bytes)
Diskless (Keeps k) = ⊥

pub diskless_unless : {A F : Type 0} (stop : F → Status) (read : Result A F) (next : A → Work) → ((x : A) → Diskless (next x)) → Diskless (unless_faulty stop read next)
diskless_unless stop (Ok x) next diskless = diskless x
diskless_unless stop (Err fault) next diskless = tt

pub diskless_run : (r : RunFiles) → Diskless (run_work r)
diskless_run r = λ bytes. diskless_unless bad_members (members_of bytes) (script_work r.script r.workers)
    (λ list bytes. diskless_unless bad_script (lines_for list r.workers bytes) (report_work list) (λ lines. tt))

diskless_own : (own : Option ℕ) (next : ℕ → Work) → ((m : ℕ) → Diskless (next m)) → Diskless (if_own own next)
diskless_own None next diskless = tt
diskless_own (Some own) next diskless = diskless own

pub diskless_prove : (f : NodeFiles) → Diskless (prove_work f)
diskless_prove f = λ bytes. diskless_unless bad_members (members_of bytes) (λ (members : MemberList). if_own (own_in members f.own) (certificate_work f.script members))
    (λ members. diskless_own (own_in members f.own) (certificate_work f.script members)
    (λ own bytes. diskless_unless bad_script (lines_for members 0 bytes) (λ lines. Writes (IsProofOf members lines own)) (λ lines. tt)))

pub diskless_check : (f : CheckFiles) → Diskless (check_work f)
diskless_check f = λ bytes. diskless_unless bad_members (members_of bytes) (λ (list : MemberList). shown_work f.proof list (answer_work list))
    (λ list bytes. diskless_unless bad_proof (judged_by list bytes) (answer_work list) (λ shown. tt))

pub diskless_storm : (r : StormRun) → Diskless (storm_work r)
diskless_storm r = λ bytes. diskless_unless bad_members (members_of bytes) (heads_work r) (λ members. tt)

diskless_exchange : (exchange : Exchange) (members : MemberList) (v : NodeView Secrets) → Diskless (exchange_work exchange members v)
diskless_exchange Ask members v = tt
diskless_exchange (Serve have) members v = λ bytes. diskless_unless bad_message (message_of Have bytes) (λ m. Writes (IsAnswering v m)) (λ m. tt)
diskless_exchange (Take rows) members v = λ bytes. diskless_unless bad_message (message_of Rows bytes) (λ m. Writes (IsTakingText members v m)) (λ m. tt)

pub diskless_played : (f : NodeFiles) (exchange : Exchange) → Diskless (played_work f (exchange_work exchange))
diskless_played f exchange = λ bytes. diskless_unless bad_members (members_of bytes) (λ members. if_own (own_in members f.own) (play_work f.script (exchange_work exchange) members))
    (λ members. diskless_own (own_in members f.own) (play_work f.script (exchange_work exchange) members)
    (λ own bytes. diskless_unless bad_script (lines_for members 0 bytes) (λ lines. exchange_work exchange members (played_node members lines own))
    (λ lines. diskless_exchange exchange members (played_node members lines own))))

-- then it does not matter which disk it is that nothing is done to
pub with_disk : (work : Work) (c : Course) (d : DiskCourse) (starts : ℕ) (status : Status) → Diskless work → IsIdle d → Comes work c starts status → Comes work (record c { disk = d }) starts status
with_disk (Writes Is) c d starts status diskless idle comes = (comes.0, comes.1, idle)
with_disk (Stops why) c d starts status diskless idle comes = (comes.0, (comes.1.0, comes.1.1, idle))
with_disk (Reads file name next) c d starts status diskless idle (inl short) = inl (short.0, (short.1.0, short.1.1, idle))
with_disk (Reads file name next) c d starts status diskless idle (inr (inl stops)) = inr (inl (stops.0, (stops.1.0, stops.1.1, idle)))
with_disk (Reads file name next) c d starts status diskless idle (inr (inr read)) =
    inr (inr (read.0, read.1, with_disk (next read.0) c d (raised starts) status (diskless read.0) idle read.2))
with_disk (Keeps k) c d starts status diskless idle comes = absurd diskless

-- a file that was not taken, whatever would have been done with it
pub takes_none : {S T A E : Type 0} (F : shelf.Ghosts S) (K : sink.Ghosts T) (s t : S) (out : T) (d : DiskCourse) (file : File) (stop : E → Status) (read : List ℕ → Result A E) (name : List ℕ) (next : A → Work) (status : Status) →
    IsIdle d → StopsIn F s t (takes file stop read name (λ x. nothing_more)) status → Ends (takes file stop read name next) (course F K s t out out d) status
takes_none F K s t out d file stop read name next status idle (inl short) = inl (short.0, (short.1.0, refl, idle))
takes_none F K s t out d file stop read name next status idle (inr (inl stops)) = inr (inl (stops.0, (stops.1.0, refl, idle)))
takes_none F K s t out d file stop read name next status idle (inr (inr found)) =
    inr (inr (found.0, found.1, faulty_beside stop (read found.0) next (reading F s t) (sink_course K out out) d (raised (F.starts s)) status refl idle found.2))

-- ---- from one moment to an earlier one

-- the course may begin at an earlier moment, with the same files and no more faults
pub earlier : {S T : Type 0} (F : shelf.Ghosts S) (K : sink.Ghosts T) (s u t : S) (out written : T) (d : DiskCourse) (work : Work) (starts : ℕ) (status : Status) →
    F.holds u ≡ F.holds s → ((name : List ℕ) → F.faults s name ≤ F.faults u name) →
    Comes work (course F K u t out written d) starts status → Comes work (course F K s t out written d) starts status
earlier F K s u t out written d (Writes Is) starts status holds counts comes = comes
earlier F K s u t out written d (Stops why) starts status holds counts comes = comes
earlier F K s u t out written d (Reads file name next) starts status holds counts (inl short) = inl short
earlier F K s u t out written d (Reads file name next) starts status holds counts (inr (inl (inl fault, quiet))) =
    (let less = counts name in inr (inl (inl (fault.0, omega (arith, fault.1, less)), quiet)))
earlier F K s u t out written d (Reads file name next) starts status holds counts (inr (inl (inr (inl long), quiet))) =
    inr (inl (inr (inl (long.0, subst (λ (h : Option Files). HasMore h name (limit_of file)) holds long.1)), quiet))
earlier F K s u t out written d (Reads file name next) starts status holds counts (inr (inl (inr (inr short), quiet))) = inr (inl (inr (inr short), quiet))
earlier F K s u t out written d (Reads file name next) starts status holds counts (inr (inr read)) =
    inr (inr (
      read.0,
      subst (λ (h : Option Files). HasWithin h name (limit_of file) read.0) holds read.1,
      earlier F K s u t out written d (next read.0) (raised starts) status holds counts read.2,
    ))
earlier F K s u t out written d (Keeps k) starts status holds counts comes = comes

-- from the work behind a file to the one that begins with it
pub takes_on : {S T A E : Type 0} (F : shelf.Ghosts S) (K : sink.Ghosts T) (s u t : S) (out written : T) (d : DiskCourse) (file : File) (stop : E → Status) (read : List ℕ → Result A E) (name : List ℕ) (next : A → Work) (x : A) (status : Status) →
    IsTaken (F.holds s) file read name x → StartsOne F s u →
    Ends (next x) (course F K u t out written d) status → Ends (takes file stop read name next) (course F K s t out written d) status
takes_on F K s u t out written d file stop read name next x status taken started ends =
    let on = earlier F K s u t out written d (next x) (raised (F.starts s)) status started.1.0 started.1.1
    (subst (λ (n : ℕ). Comes (next x) (course F K u t out written d) n status) started.0 ends) in
    inr (inr (taken.0, taken.1, rw taken.2 on))

-- from what printing tells of a text to the end of a work that writes it
pub wrote : {T E : Type 0} (K : sink.Ghosts T) (out written : T) (Is : List ℕ → Type 0) (text : List ℕ) (r : Result ⊤ E) →
    Is text → Prints K out written text r → WroteOn K out written Is (status_of r)
wrote K out written Is text (Ok x) is prints = (text, is, prints.0, prints.1)
wrote K out written Is text (Err e) is prints = (prints.1, prints.2, (text, is, prints.0))

-- .. of a message
pub delivers : {T : Type 0} (K : sink.Ghosts T) (out written : T) (Is : List ℕ → Type 0) (m : Message) (d : Delivery) →
    Is (message_bytes m) → Delivers K out written m d → WroteOn K out written Is (delivered d)
delivers K out written Is m (delivery.Sent count) is sent = (message_bytes m, is, sent.1, sent.2)
delivers K out written Is m delivery.Failed is failed = (failed.1, failed.2, (message_bytes m, is, failed.0))

-- what a request came to, told of the values at the end of the call
pub ends_at : {S T D : Type 0} (F : shelf.Ghosts S) (K : sink.Ghosts T) (W : disk.Ghosts D) (s t last : S) (out written done : T) (disk kept left : D) (asked words : Option Asked) (status same : Status) →
    asked ≡ words → last ≡ t → done ≡ written → left ≡ kept → same ≡ status →
    Ends (work_of asked) (course F K s t out written (disk_course W disk kept)) status → Ends (work_of words) (course F K s last out done (disk_course W disk left)) same
ends_at F K W s t last out written done disk kept left asked words status same is shelf_is out_is disk_is status_is ends =
    rw (← is, shelf_is, out_is, disk_is, status_is) ends

-- .. of a command without a disk
pub ends_without : {S T D : Type 0} (F : shelf.Ghosts S) (K : sink.Ghosts T) (W : disk.Ghosts D) (s t last : S) (out written done : T) (disk left : D) (asked words : Option Asked) (status same : Status) →
    Diskless (work_of asked) → asked ≡ words → last ≡ t → done ≡ written → left ≡ disk → same ≡ status →
    Ends (work_of asked) (course F K s t out written no_disk) status → Ends (work_of words) (course F K s last out done (disk_course W disk left)) same
ends_without F K W s t last out written done disk left asked words status same diskless is shelf_is out_is disk_is status_is ends =
    ends_at F K W s t last out written done disk disk left asked words status same is shelf_is out_is disk_is status_is
    (with_disk (work_of asked) (course F K s t out written no_disk) (disk_course W disk disk) (F.starts s) status diskless (idle_disk W disk) ends)
