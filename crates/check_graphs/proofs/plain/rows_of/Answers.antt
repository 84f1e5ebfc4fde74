use Rattle.std.proofs.Common.{List, [], ◌∷◌, ◌++◌, sym, ap₂, ◌∙◌, arith}
use Rattle.hg_model.specs.declared.row.Row.{Row}
use Rattle.check_graphs.proofs.TakeLaws.{take_got}
use Rattle.check_graphs.proofs.plain.rows_of.Goals as goal

pub loop-place-preserved : goal.loop-place-preserved
loop-place-preserved c =
    c.in_ok-push.ensures.items ∙ ap₂ (λ (rows : List Row) (row : Row). rows ++ row ∷ []) c.loop-place.invariant c.in_ok-copy.ensures
    ∙ sym (take_got _ c.loop-place.place c.row.result.now (omega arith) c.row.ensures)
