use Rattle.std.proofs.Common.{arith, subst, sym}
use Rattle.hg_life.specs.NodeView.{node_state}
use Rattle.check_graphs.specs.Moments.{IsFrozenOf}
use Rattle.check_graphs.proofs.MomentLaws.{speaks_later}
use Rattle.check_graphs.proofs.watched.Watched.publish.Goals as goal

pub publish-marked-requires : goal.publish-marked-requires
publish-marked-requires c =
    let speaks : IsFrozenOf c.args.self.now.node c.index.result.now = subst (IsFrozenOf c.args.self.now.node) (sym c.index.ensures)
    (c.args.self.now.moments c.args.number c.index.result.now (omega arith)) in
    c.found_lasts.ensures.whole _ _ (node_state c.args.self.now.node) _ _ _ (speaks _ _ _ c.in_ok-found.ensures)

pub invariant_of-self : goal.invariant_of-self
invariant_of-self c = record { moments = speaks_later c.args.self.now.node c.publish-marked.new.self _ c.publish-marked.ensures.grown c.found_lasts.ensures.lasts c.args.self.now.held.items c.args.self.now.moments }
