use Rattle.check_graphs.proofs.MomentLaws.{speaks_made}
use Rattle.check_graphs.proofs.watched.Watched.make.Goals as goal

pub invariant_of-self : goal.invariant_of-self
invariant_of-self c = record { moments = speaks_made _ c.args.self.now.node c.make.new.self _ _ _ c.make.result c.make.ensures.ok c.make.ensures.err c.found_lasts.ensures.lasts c.args.self.now.held.items c.args.self.now.moments }
