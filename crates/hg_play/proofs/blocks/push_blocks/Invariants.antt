use Rattle.hg_play.specs.Nodes.{IsKept, seen_alone}
use Rattle.hg_play.proofs.NodesLaws.{BlocksSoFar}
use Rattle.hg_play.proofs.blocks.push_blocks.Given as goal

abbrev pub invariant-loop-member : goal.invariant-loop-member
invariant-loop-member l = record {
  kept : IsKept (seen_alone l.initial.world) (seen_alone l.world);
  told : BlocksSoFar l.game.members.now l.member (seen_alone l.initial.world) (seen_alone l.world) l.initial.tape.printed l.tape.printed;
}
