use Rattle.std.proofs.Common.{refl}
use Rattle.hg_exchange.specs.Exchanges.{IsTakingText, played_node}
use Rattle.hg_exchange.specs.Messages.{message_of}
use Rattle.hg_exchange.specs.Text.{took_text}
use Rattle.hg_wire.specs.declared.message.Message.{Message}
use Rattle.hg_wire.specs.declared.message.Want.TheVariants.{Rows}
use Rattle.hg_top.specs.declared.status.File.TheVariants as file
use Rattle.hg_top.specs.Commands.{bad_message}
use Rattle.hg_top.specs.Course.{no_disk}
use Rattle.hg_top.specs.Work.Work.{Writes}
use Rattle.hg_top.proofs.KeepLaws.{idle_none}
use Rattle.hg_top.proofs.WorkLaws.{takes_none, takes_on, wrote}
use Rattle.hg_top.proofs.exchanging.take_message.Goals as goal

pub returns-in-Err-clause-ends : goal.returns-in-Err-clause-ends
returns-in-Err-clause-ends g c =
    let v = played_node c.args.members.now c.args.lines.now c.args.own in
    takes_none g.F.Shelf g.K.Sink c.args.shelf.now c.message_from.new.shelf c.args.out.now no_disk file.Message bad_message (message_of Rows) c.args.rows.now
    (λ (m : Message). Writes (IsTakingText c.args.members.now v m)) c.in-Err.status idle_none c.in-Err.ensures.err

pub returns-in-Ok-take-clause-ends : goal.returns-in-Ok-take-clause-ends
returns-in-Ok-take-clause-ends g c =
    let members = c.args.members.now in
    let v = played_node members c.args.lines.now c.args.own in
    let m : Message = c.in-Ok.message in
    let took = c.in-Ok-take.took in
    let out = c.write_took.new.sink in
    takes_on g.F.Shelf g.K.Sink c.args.shelf.now c.message_from.new.shelf c.message_from.new.shelf c.args.out.now out
    no_disk file.Message bad_message (message_of Rows) c.args.rows.now (λ (m : Message). Writes (IsTakingText members v m)) m c.status_of.result
    c.in-Ok.ensures.ok c.message_from.ensures.starts
    (refl, rw c.status_of.ensures (wrote g.K.Sink c.args.out.now out (IsTakingText members v m) (took_text took) c.write_took.result (took, c.in-Ok-take.ensures, refl) c.write_took.ensures), idle_none)
