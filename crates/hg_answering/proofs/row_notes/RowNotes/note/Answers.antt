use Rattle.std.proofs.Common.{◌+◌, ◌≡◌, ◌∙◌, ◌++◌, ◌∷◌, [], ap, arith, ℕ}
use Rattle.hg_model.specs.Stakes.{member_count}
use Rattle.hg_answering.specs.RowNotes.{RowNotesView, first_notes}
use Rattle.hg_answering.proofs.NoteLaws.{member_noted, flag_noted, few_payloads, member_of_row, notes_next}
use Rattle.hg_answering.proofs.row_notes.RowNotes.note.Goals as goal

pub next_sequence-sequence-requires-clause-place : goal.next_sequence-sequence-requires-clause-place
next_sequence-sequence-requires-clause-place c = omega (arith, c.requires.place, c.is_of_graph.ensures.long)

pub note_last-requires : goal.note_last-requires
note_last-requires c =
    let g = c.args.graph.now.graph in
    let old : RowNotesView = record {
      lasts = c.self.inside.lasts.items;
      strange = c.self.inside.strange.items;
      sequences = c.self.inside.sequences.items;
      payloads = c.self.inside.payloads;
    } in
    let noted : old ≡ first_notes c.args.bound.now (member_count g.members) g.rows c.args.x = c.self.view_is ∙ c.requires.noted in
    let member = member_of_row g.members g.rows c.args.x c.row-row.result.now c.is_of_graph.ensures.shaped c.requires.place c.row-row.ensures in
    member_noted c.args.bound.now (member_count g.members) g.rows c.args.x old c.row-row.result.now.creator member noted

pub note_strange-requires : goal.note_strange-requires
note_strange-requires c =
    let g = c.args.graph.now.graph in
    let old : RowNotesView = record {
      lasts = c.self.inside.lasts.items;
      strange = c.self.inside.strange.items;
      sequences = c.self.inside.sequences.items;
      payloads = c.self.inside.payloads;
    } in
    let noted : old ≡ first_notes c.args.bound.now (member_count g.members) g.rows c.args.x = c.self.view_is ∙ c.requires.noted in
    let member = member_of_row g.members g.rows c.args.x c.row-row.result.now c.is_of_graph.ensures.shaped c.requires.place c.row-row.ensures in
    flag_noted c.args.bound.now (member_count g.members) g.rows c.args.x old c.row-row.result.now.creator member noted

pub overflow_add-self : goal.overflow_add-self
overflow_add-self c =
    let g = c.args.graph.now.graph in
    let old : RowNotesView = record {
      lasts = c.self.inside.lasts.items;
      strange = c.self.inside.strange.items;
      sequences = c.self.inside.sequences.items;
      payloads = c.self.inside.payloads;
    } in
    let noted : old ≡ first_notes c.args.bound.now (member_count g.members) g.rows c.args.x = c.self.view_is ∙ c.requires.noted in
    let few = few_payloads c.args.bound.now (member_count g.members) g.rows c.args.x old c.row-row.result.now c.payloads_in.result noted c.payloads_in.ensures in
    omega (arith, few, c.requires.place, c.is_of_graph.ensures.short)

pub returns-clause-noted : goal.returns-clause-noted
returns-clause-noted c =
    let g = c.args.graph.now.graph in
    let old : RowNotesView = record {
      lasts = c.self.inside.lasts.items;
      strange = c.self.inside.strange.items;
      sequences = c.self.inside.sequences.items;
      payloads = c.self.inside.payloads;
    } in
    let noted : old ≡ first_notes c.args.bound.now (member_count g.members) g.rows c.args.x = c.self.view_is ∙ c.requires.noted in
    let member = member_of_row g.members g.rows c.args.x c.row-row.result.now c.is_of_graph.ensures.shaped c.requires.place c.row-row.ensures in
    notes_next c.args.bound.now (member_count g.members) g.rows c.args.x c.row-row.result.now c.requires.place c.row-row.ensures old
    c.note_last.new.lasts.items c.note_strange.new.strange.items c.push.new.self.items (c.self.inside.payloads + c.payloads_in.result)
    member noted c.note_last.ensures c.note_strange.ensures
    (c.in_ok-push.ensures.items ∙ ap (λ (k : ℕ). c.self.inside.sequences.items ++ k ∷ []) c.next_sequence-sequence.ensures)
    (ap (λ (k : ℕ). c.self.inside.payloads + k) c.payloads_in.ensures)
