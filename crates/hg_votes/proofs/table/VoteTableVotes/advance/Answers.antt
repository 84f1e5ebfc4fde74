use Rattle.std.proofs.Common.{ap, arith}
use Rattle.hg_model.specs.Prefix.{links_of}
use Rattle.hg_model.proofs.LinkLaws.{length-links}
use Rattle.hg_votes.specs.Counting.{Counting}
use Rattle.hg_votes.proofs.LastLaws.{last_round-le}
use Rattle.hg_votes.proofs.table.VoteTableVotes.advance.Goals as goal

pub overflow_add-self : goal.overflow_add-self
overflow_add-self g c =
    let graph = g.P.Prefix.graph c.args.p.now in
    omega (arith, last_round-le graph.members (links_of graph) c.requires.made.shaped.earlier, length-links graph.rows, c.requires.made.short, c.requires.more, ap (λ (t : Counting). t.counted) c.self.view_is)
