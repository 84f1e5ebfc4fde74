use Rattle.std.proofs.Common.{◌∙◌}
use Rattle.hg_answering.proofs.NoteLaws.{first_at}
use Rattle.hg_answering.proofs.row_notes.RowNotes.follow.Goals as goal

pub returns-in_err-note-clause-first : goal.returns-in_err-note-clause-first
returns-in_err-note-clause-first c =
    first_at c.args.bound.now c.args.graph.now.graph c.note.new.self c.loop-x.x c.loop-x.invariant.0 (c.in_err-note.ensures.same ∙ c.loop-x.invariant.1)

pub returns-clause-first : goal.returns-clause-first
returns-clause-first c =
    first_at c.args.bound.now c.args.graph.now.graph c.loop-x.self c.loop-x.x c.loop-x.invariant.0 c.loop-x.invariant.1
