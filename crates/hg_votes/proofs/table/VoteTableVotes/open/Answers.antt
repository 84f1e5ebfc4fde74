use Rattle.std.proofs.Common.{◌∙◌, arith}
use Rattle.hg_model.specs.Prefix.{links_of}
use Rattle.hg_model.proofs.RoundLaws.{round_of-pos}
use Rattle.hg_model.proofs.PrefixLaws.{round_read}
use Rattle.hg_votes.proofs.table.VoteTableVotes.open.Goals as goal

pub returns-clause-opened : goal.returns-clause-opened
returns-clause-opened g c =
    let graph = g.P.Prefix.graph c.args.p.now in
    let read = c.round-self-inside.ensures ∙ round_read graph _ c.args.x (g.met.P.Prefix.has_rounds c.args.p.now) c.requires.place in
    omega (arith, round_of-pos graph.members (links_of graph) c.requires.made.shaped.earlier c.args.x, read)
