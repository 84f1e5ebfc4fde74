-- Lines that tell what is wrong.
use Rattle.std.proofs.Common.{◌≡◌, ◌∙◌, ℕ, List, ap, subst, sym}
use Rattle.std.specs.Prelude.{Result, ⊤}
use Rattle.hg_exchange.specs.declared.message.MessageFault.{MessageFault}
use Rattle.hg_io.specs.Printing.{Prints}
use Rattle.hg_io.specs.declared.sink.Sink as sink
use Rattle.hg_top.specs.declared.status.Refusal.TheVariants.{Fault}
use Rattle.hg_top.specs.Printing.{wire_line, wire_pair}

-- the line of a fault that is told by a word and a number
pub told_so : {S E : Type 0} (K : sink.Ghosts S) (before after : S) (r : Result ⊤ E) (word : List ℕ) (count number : ℕ) (fault exact : MessageFault) → count ≡ number →
    fault ≡ exact → wire_pair word number ≡ wire_line (Fault exact) → Prints K before after (wire_pair word count) r → Prints K before after (wire_line (Fault fault)) r
told_so K before after r word count number fault exact same is line prints =
    subst (λ (t : List ℕ). Prints K before after t r) (ap (wire_pair word) same ∙ line ∙ ap (λ (f : MessageFault). wire_line (Fault f)) (sym is)) prints
