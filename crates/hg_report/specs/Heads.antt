-- The first lines of the blocks of nodes
use Rattle.std.specs.Prelude.{ℕ, List, [], ◌∷◌, ◌++◌}
use Rattle.hg_outcome.specs.declared.outcome.Printed.{Printed}
use Rattle.hg_outcome.specs.declared.outcome.Printed.TheVariants as printed
use Rattle.hg_outcome.specs.declared.outcome.Outcome.{Outcome}
use Rattle.hg_outcome.specs.Report.{head_text}

-- of a block its first line, and nothing of any other piece
abbrev pub piece_head : List (List ℕ) → Printed → List ℕ
piece_head names (printed.Block b) = head_text names b
piece_head names _ = []

-- one piece after the other
abbrev pub pieces_heads : List (List ℕ) → List Printed → List ℕ
pieces_heads names [] = []
pieces_heads names (piece ∷ pieces) = piece_head names piece ++ pieces_heads names pieces

-- the first lines of the blocks of all nodes
abbrev pub heads_text : Outcome → List ℕ
heads_text o = pieces_heads o.names o.printed
