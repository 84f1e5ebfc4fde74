use Rattle.std.proofs.Common.{◌∙◌, ℕ, List, Ok, ap₂, sym}
use Rattle.hg_model.specs.declared.row.Row.{Row}
use Rattle.hg_event.specs.View.{row_of}
use Rattle.hg_proof.proofs.PartLaws.{row_front}
use Rattle.hg_proof.proofs.WantLaws.{is_read, so_anyhow}
use Rattle.hg_proof.proofs.reading.event_part.Goals as goal

pub returns-clause-part : goal.returns-clause-part
returns-clause-part c =
    row_front c.args.size c.in-Ok.len c.args.bytes.now (row_of c.in-Ok.view) c.in-Ok.ensures.found
    ∙ ap₂ (λ (row : Row) (left : List ℕ). Ok (row, left)) (sym c.in_ok-shared.ensures) (sym c.split_at.ensures.back)

pub returns-in_err-shared-clause-free : goal.returns-in_err-shared-clause-free
returns-in_err-shared-clause-free c =
    so_anyhow c.from_residual.result _ (is_read _ _ (row_front c.args.size c.in-Ok.len c.args.bytes.now (row_of c.in-Ok.view) c.in-Ok.ensures.found))
