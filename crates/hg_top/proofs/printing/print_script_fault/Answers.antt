use Rattle.std.proofs.Common.{◌++◌, List, ℕ, codes, subst}
use Rattle.std.specs.Fmt.{decimal}
use Rattle.hg_io.specs.Printing.{Prints}
use Rattle.hg_top.proofs.printing.print_script_fault.Goals as goal

pub returns : goal.returns
returns g c =
    let sink = g.E.Sink in
    subst (λ (t : List ℕ). Prints sink c.args.err.now c.print_pieces.new.sink
    (codes "hashgraph: script line " ++ (decimal c.args.fault.line ++ (codes ": " ++ (t ++ codes "\n")))) c.print_pieces.result) c.text-why.ensures c.print_pieces.ensures
