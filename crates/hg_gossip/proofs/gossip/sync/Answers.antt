use Rattle.std.proofs.Common.{inl, inr}
use Rattle.hg_gossip.proofs.TakeLaws.{errs, makes_none, pulls_none, pulls_some, syncs_all}
use Rattle.hg_gossip.proofs.gossip.sync.Goals as goal

pub returns-in_err-parcel-clause-err : goal.returns-in_err-parcel-clause-err
returns-in_err-parcel-clause-err g c =
    errs c.from_residual.result _
    (inl (pulls_none g.T.Holder.rules (g.T.Holder.seen c.args.taker.now) (g.T.Holder.seen c.parcel_for.new.taker) (g.P.Holder.seen c.parcel_for.new.peer) c.parcel_for.ensures.taker))

pub returns-in_err-counts-clause-err : goal.returns-in_err-counts-clause-err
returns-in_err-counts-clause-err g c =
    errs c.from_residual-in_err-counts.result _
    (inl (pulls_some g.T.Holder.rules (g.T.Holder.seen c.args.taker.now) (g.T.Holder.seen c.parcel_for.new.taker) (g.T.Holder.seen c.take.new.taker) (g.P.Holder.seen c.parcel_for.new.peer) c.in_ok-parcel.parcel c.as_slice.result.now
    c.in_ok-parcel.ensures.ok c.as_slice.ensures c.parcel_for.ensures.taker c.in_err-counts.ensures.err))

pub returns-in_err-made-clause-err : goal.returns-in_err-made-clause-err
returns-in_err-made-clause-err g c =
    errs c.from_residual-in_err-made.result _
    (inr (makes_none g.T.Holder.rules (g.T.Holder.seen c.args.taker.now) (g.T.Holder.seen c.parcel_for.new.taker) (g.T.Holder.seen c.take.new.taker) (g.T.Holder.seen c.make_after.new.taker) (g.P.Holder.seen c.parcel_for.new.peer) c.in_ok-parcel.parcel c.as_slice.result.now
    c.args.payload.now c.in_ok-counts.counts c.in_ok-parcel.ensures.ok c.as_slice.ensures c.parcel_for.ensures.taker c.in_ok-counts.ensures.ok c.in_err-made.ensures.err c.in_err-made.ensures.free))

pub returns-clause-ok : goal.returns-clause-ok
returns-clause-ok g c =
    syncs_all g.T.Holder.rules (g.T.Holder.seen c.args.taker.now) (g.T.Holder.seen c.parcel_for.new.taker) (g.T.Holder.seen c.take.new.taker) (g.T.Holder.seen c.make_after.new.taker) (g.P.Holder.seen c.parcel_for.new.peer) c.in_ok-parcel.parcel c.as_slice.result.now
    c.args.time c.args.payload.now c.in_ok-counts.counts c.in_ok-made.made c.in_ok-parcel.ensures.ok c.as_slice.ensures c.parcel_for.ensures.taker c.in_ok-counts.ensures.ok c.in_ok-made.ensures.ok
