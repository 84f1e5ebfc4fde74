-- The text of what came of a message that a node took, and of what is wrong with one
use Rattle.std.specs.Prelude.{ℕ, List, ◌++◌, codes}
use Rattle.hg_gossip.specs.declared.gossip.Taken.{Taken}
use Rattle.hg_outcome.specs.Report.{byte_fault_text, report_text, with_number}
use Rattle.hg_wire.specs.declared.message.WireFault.TheVariants.{Magic, Kind, Count, Row, Flag}
use Rattle.hg_exchange.specs.declared.exchange.Took.{Took}
use Rattle.hg_exchange.specs.declared.message.MessageFault.{MessageFault}
use Rattle.hg_exchange.specs.declared.message.MessageFault.TheVariants.{Wire, Ended, Trailing}

abbrev pub taken_line : Taken → List ℕ
taken_line t = with_number (codes "taken") t.taken ++ (with_number (codes " refused") t.refused ++ codes "\n")

abbrev pub took_text : Took → List ℕ
took_text took = taken_line took.counts ++ report_text took.outcome

abbrev pub message_fault_text : MessageFault → List ℕ
message_fault_text (Wire (Magic at)) = with_number (codes "magic") at
message_fault_text (Wire (Kind kind)) = with_number (codes "kind") kind
message_fault_text (Wire (Count count)) = with_number (codes "count") count
message_fault_text (Wire (Row place fault)) = with_number (codes "row") place ++ (codes " " ++ byte_fault_text fault)
message_fault_text (Wire (Flag flag)) = with_number (codes "flag") flag
message_fault_text (Ended at) = with_number (codes "ended") at
message_fault_text (Trailing at) = with_number (codes "trailing") at
