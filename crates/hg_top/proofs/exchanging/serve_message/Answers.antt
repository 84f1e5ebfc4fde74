use Rattle.std.proofs.Common.{refl}
use Rattle.hg_exchange.specs.Exchanges.{IsAnswering, played_node}
use Rattle.hg_exchange.specs.Messages.{message_of, names_in}
use Rattle.hg_wire.specs.declared.message.Message.{Message}
use Rattle.hg_wire.specs.declared.message.Want.TheVariants.{Have}
use Rattle.hg_wire.specs.Exchange.{answer_of}
use Rattle.hg_top.specs.declared.status.File.TheVariants as file
use Rattle.hg_top.specs.Commands.{bad_message}
use Rattle.hg_top.specs.Course.{no_disk}
use Rattle.hg_top.specs.Work.Work.{Writes}
use Rattle.hg_top.proofs.KeepLaws.{idle_none}
use Rattle.hg_top.proofs.WorkLaws.{delivers, takes_none, takes_on}
use Rattle.hg_top.proofs.exchanging.serve_message.Goals as goal

pub returns-in-Err-clause-ends : goal.returns-in-Err-clause-ends
returns-in-Err-clause-ends g c =
    let v = played_node c.args.members.now c.args.lines.now c.args.own in
    takes_none g.F.Shelf g.K.Sink c.args.shelf.now c.message_from.new.shelf c.args.out.now no_disk file.Message bad_message (message_of Have) c.args.have.now
    (λ (m : Message). Writes (IsAnswering v m)) c.in-Err.status idle_none c.in-Err.ensures.err

pub returns-in-Ok-serve-clause-ends : goal.returns-in-Ok-serve-clause-ends
returns-in-Ok-serve-clause-ends g c =
    let v = played_node c.args.members.now c.args.lines.now c.args.own in
    let m : Message = c.in-Ok.message in
    let out = c.serve.new.out in
    takes_on g.F.Shelf g.K.Sink c.args.shelf.now c.message_from.new.shelf c.message_from.new.shelf c.args.out.now out
    no_disk file.Message bad_message (message_of Have) c.args.have.now (λ (m : Message). Writes (IsAnswering v m)) m c.delivered.result
    c.in-Ok.ensures.ok c.message_from.ensures.starts
    (refl, rw c.delivered.ensures (delivers g.K.Sink c.args.out.now out (IsAnswering v m) (answer_of (names_in m) v) c.in-Ok-serve.delivery (c.in-Ok-serve.ensures.fits, refl) c.in-Ok-serve.ensures.sent), idle_none)
