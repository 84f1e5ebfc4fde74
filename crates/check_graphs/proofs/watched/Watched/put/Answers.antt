use Rattle.check_graphs.proofs.MomentLaws.{speaks_after}
use Rattle.check_graphs.proofs.watched.Watched.put.Goals as goal

pub invariant_of-self : goal.invariant_of-self
invariant_of-self c = record { moments = speaks_after c.args.self.now.node c.put.new.self _ c.put.result c.put.ensures.ok c.put.ensures.err c.found_lasts.ensures.lasts c.args.self.now.held.items c.args.self.now.moments }
