-- What came of writing a text, and the status of it
use Rattle.std.specs.Prelude.{ℕ, ◌≡◌, ◌≤◌, ◌⊎◌, Bool, true, false, List, Result, Ok, Err}
use Rattle.hg_io.specs.Bytes.{Appends, AppendsPart}
use Rattle.hg_io.specs.Faults.{Rose}
use Rattle.hg_io.specs.declared.sink.Sink as sink
use Rattle.hg_wire.specs.declared.exchange.Delivery.{Delivery}
use Rattle.hg_wire.specs.declared.exchange.Delivery.TheVariants.{Sent, Failed}
use Rattle.hg_top.specs.declared.status.Status.{Status}
use Rattle.hg_top.specs.declared.status.Status.TheVariants.{Done, WriteFault, Memory}
use Rattle.hg_top.specs.Course.{SinkCourse, sink_course}

-- just this status, or that memory ran out
abbrev pub Gives : Status → Status → Type 0
Gives why status = (status ≡ why) ⊎ (status ≡ Memory)

-- The last step of a work that writes a text with a property: the text stands whole at `Done`, and a front of it at a
-- fault, and no count of faults fell. Where memory ran out nothing was done to standard output.
abbrev pub Wrote : (List ℕ → Type 0) → SinkCourse → Status → Type 0
Wrote Is o Done = (text : List ℕ) × Is text × Appends o.before o.after text × (o.faults_before ≤ o.faults_after)
Wrote Is o WriteFault =
    Rose o.faults_before o.faults_after × (o.faults_before ≤ o.faults_after)
    × ((text : List ℕ) × Is text × AppendsPart o.before o.after text)
Wrote Is o Memory = o.same
Wrote Is o _ = ⊥

-- the same of a sink K, before and after
abbrev pub WroteOn : {S : Type 0} → sink.Ghosts S → S → S → (List ℕ → Type 0) → Status → Type 0
WroteOn K before after Is status = Wrote Is (sink_course K before after) status

-- whether a call with this status may have begun to write
abbrev pub may_write : Status → Bool
may_write Done = true
may_write WriteFault = true
may_write _ = false

-- what a call comes to by what came of writing a message, and by what came of writing
abbrev pub delivered : Delivery → Status
delivered (Sent count) = Done
delivered Failed = WriteFault

abbrev pub status_of : {A E : Type 0} → Result A E → Status
status_of (Ok x) = Done
status_of (Err e) = WriteFault
