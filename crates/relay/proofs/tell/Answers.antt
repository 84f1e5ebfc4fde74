use Rattle.std.proofs.Common.{◌≡◌, refl, subst, List, ℕ}
use Rattle.hg_top.specs.Printing.{IsPrintedOn, status_line}
use Rattle.hg_top.specs.declared.status.Status.{Status}
use Rattle.hg_top.specs.declared.status.Status.TheVariants.{Done, ReadFault, Usage, Members, Own, Script, Events, WriteFault, Memory, Disk, Journal, Proof, Wire}
use Rattle.relay.specs.Top.{told_line}
use Rattle.relay.proofs.tell.Goals as goal

other : (status : Status) → (status ≡ Usage → ⊥) → status_line status ≡ told_line status
other Done not = refl
other (ReadFault file) not = refl
other Usage not = absurd (not refl)
other (Members refusal) not = refl
other Own not = refl
other (Script refusal) not = refl
other (Events refusal) not = refl
other WriteFault not = refl
other Memory not = refl
other Disk not = refl
other (Journal fault) not = refl
other (Proof refusal) not = refl
other (Wire refusal) not = refl

pub returns-in_default : goal.returns-in_default
returns-in_default g c =
    subst (λ (line : List ℕ). IsPrintedOn g.E.Sink c.args.err.now c.report_status.new.err line) (other c.args.status c.in_default.not-Usage) c.report_status.ensures
