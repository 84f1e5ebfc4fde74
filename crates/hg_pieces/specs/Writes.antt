-- What came of putting the longer texts on a page before a sink K, which holds these bytes before and those after
use Rattle.std.specs.Prelude.{ℕ, Bool, List, Result}
use Rattle.hg_io.specs.Printing.{PutsOn}
use Rattle.hg_io.specs.declared.sink.Sink as sink
use Rattle.hg_outcome.specs.declared.outcome.Block.{Block}
use Rattle.hg_outcome.specs.declared.outcome.OrderLine.{OrderLine}
use Rattle.hg_outcome.specs.Report.{block_text, order_line_text, order_text}

-- the line of a row of the order, of this number
abbrev pub PutsLine : {S T E : Type 0} → sink.Ghosts S → S → S → List ℕ → List ℕ → Bool → List (List ℕ) → ℕ → OrderLine → Result T E → Type 0
PutsLine K before after page_before page_after named names number line r =
    PutsOn K before after page_before page_after (order_line_text named names number line) r

-- the lines of an order, numbered from 1
abbrev pub PutsOrder : {S T E : Type 0} → sink.Ghosts S → S → S → List ℕ → List ℕ → Bool → List (List ℕ) → List OrderLine → Result T E → Type 0
PutsOrder K before after page_before page_after named names lines r =
    PutsOn K before after page_before page_after (order_text named names 1 lines) r

-- a node's block
abbrev pub PutsBlock : {S T E : Type 0} → sink.Ghosts S → S → S → List ℕ → List ℕ → Bool → List (List ℕ) → Block → Result T E → Type 0
PutsBlock K before after page_before page_after named names block r =
    PutsOn K before after page_before page_after (block_text named names block) r
