use Rattle.std.proofs.Common.{subst, sym}
use Rattle.hg_graph.specs.RowsWithRoom.{rows_of}
use Rattle.hg_gossip.specs.Known.{KeepsRest}
use Rattle.hg_gossip.proofs.KnownLaws.{rest_kept}
use Rattle.hg_gossip.proofs.known.Known.note_rest.Goals as goal

pub returns-clause-keeps : goal.returns-clause-keeps
returns-clause-keeps c =
    subst (KeepsRest c.args.self.now c.args.x c.args.y c.args.len (rows_of c.args.refused.items)) (sym c.set.ensures.value)
    (rest_kept c.args.self.now c.args.x c.args.y c.args.len (rows_of c.args.refused.items) c.set.ensures.square c.requires.x c.requires.y)
