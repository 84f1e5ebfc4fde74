use Rattle.std.proofs.Common.{codes, refl, subst, sym}
use Rattle.hg_exchange.specs.declared.message.MessageFault.{MessageFault}
use Rattle.hg_exchange.specs.declared.message.MessageFault.TheVariants.{Ended, Trailing}
use Rattle.hg_io.specs.Printing.{Prints}
use Rattle.hg_top.specs.declared.status.Refusal.TheVariants.{Fault}
use Rattle.hg_top.specs.Printing.{wire_line}
use Rattle.hg_top.proofs.TellLaws.{told_so}
use Rattle.hg_top.proofs.printing.print_message_fault.Goals as goal

pub returns-in-Wire : goal.returns-in-Wire
returns-in-Wire g c =
    subst (λ (f : MessageFault). Prints g.E.Sink c.args.err.now c.print_field_fault.new.err (wire_line (Fault f)) c.print_field_fault.result) (sym c.in-Wire.is) c.print_field_fault.ensures

pub returns-in-Ended : goal.returns-in-Ended
returns-in-Ended g c =
    told_so g.E.Sink c.args.err.now c.print_wire_fault.new.err c.print_wire_fault.result (codes "ended ") c.in-Ended.at c.in-Ended.at c.args.fault (Ended c.in-Ended.at) refl c.in-Ended.is refl c.print_wire_fault.ensures

pub returns-in-Trailing : goal.returns-in-Trailing
returns-in-Trailing g c =
    told_so g.E.Sink c.args.err.now c.print_wire_fault-in-Trailing.new.err c.print_wire_fault-in-Trailing.result (codes "trailing ") c.in-Trailing.at c.in-Trailing.at c.args.fault (Trailing c.in-Trailing.at) refl c.in-Trailing.is refl c.print_wire_fault-in-Trailing.ensures
