use Rattle.std.proofs.Common.{◌∙◌, ◌++◌, List, ℕ, ap, append_assoc, codes, subst, sym}
use Rattle.std.specs.Fmt.{decimal}
use Rattle.hg_io.specs.Printing.{Prints}
use Rattle.hg_pieces.specs.Pieces.{piece_text}
use Rattle.hg_top.proofs.printing.print_event_fault.Goals as goal

pub returns : goal.returns
returns g c =
    let sink = g.E.Sink in
    let end : List ℕ = codes "\n" in
    let parts = c.byte_fault_parts.result in
    subst (λ (t : List ℕ). Prints sink c.args.err.now c.print_pieces.new.sink
    (codes "hashgraph: event at " ++ (decimal c.args.fault.at ++ (codes ": " ++ t))) c.print_pieces.result)
    (sym (append_assoc parts.0.now (piece_text parts.1) end) ∙ ap (λ (t : List ℕ). t ++ end) c.byte_fault_parts.ensures) c.print_pieces.ensures
