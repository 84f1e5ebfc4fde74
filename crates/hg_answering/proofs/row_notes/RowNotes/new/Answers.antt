use Rattle.std.proofs.Common.{◌∙◌, false, refl}
use Rattle.hg_answering.proofs.NoteLaws.{table_of_one}
use Rattle.hg_answering.proofs.row_notes.RowNotes.new.Goals as goal

pub returns : goal.returns
returns c =
    let strange = c.in_ok-vec.ensures.items_if_clones_equal (λ y h. h) ∙ table_of_one false c.args.count in
    rw (c.in_ok-no_lasts.ensures, strange, c.new.ensures.items) refl
