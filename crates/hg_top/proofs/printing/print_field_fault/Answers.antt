use Rattle.std.proofs.Common.{ap, codes, refl, subst, sym}
use Rattle.hg_exchange.specs.declared.message.MessageFault.{MessageFault}
use Rattle.hg_exchange.specs.declared.message.MessageFault.TheVariants.{Wire}
use Rattle.hg_io.specs.Printing.{Prints}
use Rattle.hg_wire.specs.declared.message.WireFault.{WireFault}
use Rattle.hg_wire.specs.declared.message.WireFault.TheVariants.{Magic, Kind, Count, Flag}
use Rattle.hg_top.specs.declared.status.Refusal.TheVariants.{Fault}
use Rattle.hg_top.specs.Printing.{wire_line}
use Rattle.hg_top.proofs.TellLaws.{told_so}
use Rattle.hg_top.proofs.printing.print_field_fault.Goals as goal

pub returns-in-Magic : goal.returns-in-Magic
returns-in-Magic g c =
    told_so g.E.Sink c.args.err.now c.print_wire_fault.new.err c.print_wire_fault.result (codes "magic ") c.in-Magic.at c.in-Magic.at (Wire c.args.fault) (Wire (Magic c.in-Magic.at)) refl
    (ap (λ (w : WireFault). (let f : MessageFault = Wire w in f)) c.in-Magic.is) refl c.print_wire_fault.ensures

pub returns-in-Kind : goal.returns-in-Kind
returns-in-Kind g c =
    told_so g.E.Sink c.args.err.now c.print_wire_fault-in-Kind.new.err c.print_wire_fault-in-Kind.result (codes "kind ") c.from.result c.in-Kind.kind (Wire c.args.fault) (Wire (Kind c.in-Kind.kind)) c.from.ensures
    (ap (λ (w : WireFault). (let f : MessageFault = Wire w in f)) c.in-Kind.is) refl c.print_wire_fault-in-Kind.ensures

pub returns-in-Count : goal.returns-in-Count
returns-in-Count g c =
    told_so g.E.Sink c.args.err.now c.print_wire_fault-in-Count.new.err c.print_wire_fault-in-Count.result (codes "count ") c.from-in-Count.result c.in-Count.count (Wire c.args.fault) (Wire (Count c.in-Count.count)) c.from-in-Count.ensures
    (ap (λ (w : WireFault). (let f : MessageFault = Wire w in f)) c.in-Count.is) refl c.print_wire_fault-in-Count.ensures

pub returns-in-Row : goal.returns-in-Row
returns-in-Row g c =
    subst (λ (w : WireFault). Prints g.E.Sink c.args.err.now c.print_row_fault.new.err (wire_line (Fault (Wire w))) c.print_row_fault.result) (sym c.in-Row.is) c.print_row_fault.ensures

pub returns-in-Flag : goal.returns-in-Flag
returns-in-Flag g c =
    told_so g.E.Sink c.args.err.now c.print_wire_fault-in-Flag.new.err c.print_wire_fault-in-Flag.result (codes "flag ") c.from-in-Flag.result c.in-Flag.flag (Wire c.args.fault) (Wire (Flag c.in-Flag.flag)) c.from-in-Flag.ensures
    (ap (λ (w : WireFault). (let f : MessageFault = Wire w in f)) c.in-Flag.is) refl c.print_wire_fault-in-Flag.ensures
