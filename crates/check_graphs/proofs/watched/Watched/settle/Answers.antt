use Rattle.check_graphs.proofs.MomentLaws.{speaks_after}
use Rattle.check_graphs.proofs.watched.Watched.settle.Goals as goal

pub invariant_of-self : goal.invariant_of-self
invariant_of-self c = record { moments = speaks_after c.args.self.now.node c.settle.new.self _ c.settle.result c.settle.ensures.ok c.settle.ensures.err c.found_lasts.ensures.lasts c.args.self.now.held.items c.args.self.now.moments }
