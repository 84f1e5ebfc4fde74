use Rattle.std.proofs.Common.{◌++◌, List, ℕ, codes, subst}
use Rattle.hg_io.specs.Printing.{Prints}
use Rattle.hg_pieces.proofs.Steps.{five_then}
use Rattle.hg_top.proofs.printing.print_proof_fault.Goals as goal

pub returns : goal.returns
returns g c =
    let sink = g.E.Sink in
    subst (λ (t : List ℕ). Prints sink c.args.err.now c.print_pieces.new.sink (codes "hashgraph: proof: " ++ t) c.print_pieces.result)
    (five_then c.why_pieces.result _ _ (codes "\n") c.why_pieces.ensures.five c.why_pieces.ensures.text) c.print_pieces.ensures
