use Rattle.std.proofs.Common.{take}
use Rattle.hg_play.specs.Nodes.{IsKept}
use Rattle.hg_play.specs.Through.{MatchesParts}
use Rattle.hg_play.proofs.through.play_parts.Given as goal

abbrev pub invariant-lines : goal.invariant-lines
invariant-lines g l = record {
  kept : IsKept (g.N.Nodes.seen l.fn.nodes) (g.N.Nodes.seen l.nodes);
  told : MatchesParts l.fn.game.members.now (take l.i l.fn.lines) (g.N.Nodes.seen l.fn.nodes) l.fn.tape (g.N.Nodes.seen l.nodes) l.tape;
}
