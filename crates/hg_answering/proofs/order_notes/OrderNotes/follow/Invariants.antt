use Rattle.std.proofs.Common.{◌≡◌, take}
use Rattle.std.specs.Prelude.{count_by}
use Rattle.hg_answering.specs.Telling.{orders_payload}
use Rattle.hg_answering.proofs.order_notes.OrderNotes.follow.Given as goal

abbrev pub invariant-loop-i : goal.invariant-loop-i
invariant-loop-i l = l.self.payloads ≡ count_by (orders_payload l.graph.graph.rows) (take l.i l.order)
