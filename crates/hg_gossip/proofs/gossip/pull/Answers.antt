use Rattle.hg_gossip.proofs.TakeLaws.{errs, pull_ended, pull_stopped, pulls_none}
use Rattle.hg_gossip.proofs.gossip.pull.Goals as goal

pub returns-in_err-parcel-clause-err : goal.returns-in_err-parcel-clause-err
returns-in_err-parcel-clause-err g c =
    errs c.from_residual.result _
    (pulls_none g.T.Holder.rules (g.T.Holder.seen c.args.taker.now) (g.T.Holder.seen c.parcel_for.new.taker) (g.P.Holder.seen c.parcel_for.new.peer) c.parcel_for.ensures.taker)

pub returns-clause-ok : goal.returns-clause-ok
returns-clause-ok g c =
    pull_ended g.T.Holder.rules (g.T.Holder.seen c.args.taker.now) (g.T.Holder.seen c.parcel_for.new.taker) (g.T.Holder.seen c.take.new.taker) (g.P.Holder.seen c.parcel_for.new.peer) c.in_ok-parcel.parcel c.as_slice.result.now c.take.result
    c.in_ok-parcel.ensures.ok c.as_slice.ensures c.parcel_for.ensures.taker c.take.ensures.ok

pub returns-clause-err : goal.returns-clause-err
returns-clause-err g c =
    pull_stopped g.T.Holder.rules (g.T.Holder.seen c.args.taker.now) (g.T.Holder.seen c.parcel_for.new.taker) (g.T.Holder.seen c.take.new.taker) (g.P.Holder.seen c.parcel_for.new.peer) c.in_ok-parcel.parcel c.as_slice.result.now c.take.result
    c.in_ok-parcel.ensures.ok c.as_slice.ensures c.parcel_for.ensures.taker c.take.ensures.err
