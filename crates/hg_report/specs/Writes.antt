-- What came of putting the line of an answer on a page before a sink K, which holds these bytes before and those after
use Rattle.std.specs.Prelude.{ℕ, List, Result}
use Rattle.hg_io.specs.Printing.{PutsOn}
use Rattle.hg_io.specs.declared.sink.Sink as sink
use Rattle.hg_outcome.specs.Report.{answer_line}
use Rattle.hg_pieces.specs.Phrases.{phrase_text}
use Rattle.hg_pieces.specs.declared.phrases.Phrase.{Phrase}

-- the line of an answer, with the script's own word
abbrev pub PutsAnswer : {S T E : Type 0} → sink.Ghosts S → S → S → List ℕ → List ℕ → ℕ → List ℕ → Phrase → Result T E → Type 0
PutsAnswer K before after page_before page_after line word phrase r =
    PutsOn K before after page_before page_after (answer_line line word (phrase_text phrase)) r
