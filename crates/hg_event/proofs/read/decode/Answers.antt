use Rattle.std.proofs.Common.{subst, arith}
use Rattle.hg_event.specs.View.{row_of}
use Rattle.hg_event.proofs.Spells.{Spells-read_event, IfOk-Spells}
use Rattle.hg_life.specs.Results.{Reads}
use Rattle.hg_event.proofs.read.decode.Goals as goal

pub returns-clause-found : goal.returns-clause-found
returns-clause-found c = IfOk-Spells c.args.bytes.now c.event_of.result (λ i. omega (arith, c.type_inv.bytes i)) c.event_of.ensures

pub returns-clause-only : goal.returns-clause-only
returns-clause-only c = λ row spells.
    subst (λ read. Reads row_of c.event_of.result read) (Spells-read_event c.args.bytes.now row spells) c.event_of.ensures
