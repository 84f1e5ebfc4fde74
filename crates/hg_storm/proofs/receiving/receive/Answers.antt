use Rattle.std.proofs.Common.{inl, refl}
use Rattle.hg_storm.proofs.TakeLaws.{loses_rest, on_err}
use Rattle.hg_storm.proofs.receiving.receive.Goals as goal

pub returns-in_err-messages-clause-lost : goal.returns-in_err-messages-clause-lost
returns-in_err-messages-clause-lost g c = on_err c.from_residual.result _ (inl (c.in_err-messages.ensures.err, refl))

pub returns-clause-lost : goal.returns-clause-lost
returns-clause-lost g c =
    let e = c.in_ok-messages.ensures in
    loses_rest c.args.mailbox.now c.args.inbox.now c.collect.new.port c.args.intake.now.taken.items c.take_all.new.intake.taken.items c.in_ok-messages.messages.items e.collects
    c.take_all.result c.take_all.ensures.lost
