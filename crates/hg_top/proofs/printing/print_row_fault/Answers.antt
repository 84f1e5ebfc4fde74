use Rattle.std.proofs.Common.{◌∙◌, ◌++◌, List, ℕ, ap, append_assoc, codes, subst, sym}
use Rattle.std.specs.Fmt.{decimal}
use Rattle.hg_io.specs.Printing.{Prints}
use Rattle.hg_outcome.specs.Report.{byte_fault_text}
use Rattle.hg_pieces.specs.Pieces.{piece_text}
use Rattle.hg_top.proofs.printing.print_row_fault.Goals as goal

pub returns : goal.returns
returns g c =
    let sink = g.E.Sink in
    let end : List ℕ = codes "\n" in
    let parts = c.byte_fault_parts.result in
    let place : List ℕ = decimal c.args.place in
    let fault : List ℕ = byte_fault_text c.args.fault in
    subst (λ (t : List ℕ). Prints sink c.args.err.now c.print_pieces.new.sink (codes "hashgraph: wire: row " ++ t) c.print_pieces.result)
    (ap (λ (t : List ℕ). place ++ (codes " " ++ t)) (sym (append_assoc parts.0.now (piece_text parts.1) end) ∙ ap (λ (t : List ℕ). t ++ end) c.byte_fault_parts.ensures)
    ∙ sym (append_assoc place (codes " " ++ fault) end)) c.print_pieces.ensures
