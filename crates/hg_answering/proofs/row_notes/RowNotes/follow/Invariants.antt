use Rattle.std.proofs.Common.{◌≡◌, ◌≤◌, length}
use Rattle.hg_model.specs.Stakes.{member_count}
use Rattle.hg_answering.specs.RowNotes.{first_notes}
use Rattle.hg_answering.proofs.row_notes.RowNotes.follow.Given as goal

abbrev pub invariant-loop-x : goal.invariant-loop-x
invariant-loop-x l =
    (l.x ≤ length l.graph.graph.rows) × (l.self ≡ first_notes l.bound (member_count l.graph.graph.members) l.graph.graph.rows l.x)
