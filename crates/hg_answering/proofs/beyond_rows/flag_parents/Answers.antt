use Rattle.std.proofs.Common.{◌∙◌, ap, sym, Some}
use Rattle.hg_event.specs.View.{row_of}
use Rattle.hg_model.specs.declared.row.Row.{Row}
use Rattle.hg_node.specs.Beyond.{flagged}
use Rattle.hg_node.proofs.FlagLaws.{parents_read}
use Rattle.hg_answering.proofs.beyond_rows.flag_parents.Goals as goal

pub returns : goal.returns
returns c =
    let G = c.args.graph.now.graph.rows in
    c.flag_named_parents.ensures
    ∙ ap (λ ps. flagged c.args.flags.now ps) (parents_read G c.args.x (row_of c.view.result) c.requires.place (c.event.ensures ∙ ap (λ (r : Row). Some r) (sym (c.view.ensures ∙ c.deref.ensures))))
