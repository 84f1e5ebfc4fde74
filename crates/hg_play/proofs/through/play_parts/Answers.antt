use Rattle.std.proofs.Common.{refl}
use Rattle.hg_play.proofs.NodesLaws.{kept_same, parts_none}
use Rattle.hg_play.proofs.through.play_parts.Goals as goal

pub lines-init : goal.lines-init
lines-init g c = record {
  kept = kept_same (g.N.Nodes.seen c.args.nodes.now);
  told = parts_none c.args.game.now.members.now (g.N.Nodes.seen c.args.nodes.now) c.args.tape c.args.tape refl;
}
