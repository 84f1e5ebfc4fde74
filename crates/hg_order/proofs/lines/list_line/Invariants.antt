use Rattle.std.proofs.Common.{◌≡◌, ◌<◌, length, vec_capacity}
use Rattle.hg_order.specs.Lined.{WalksLine}
use Rattle.hg_order.proofs.lines.list_line.Given as goal

abbrev pub invariant-loop-parent : goal.invariant-loop-parent
invariant-loop-parent g l = record {
  walks : WalksLine (g.P.Prefix.graph l.p).rows (g.P.Sight.shape l.p).links l.w l.fn.lines.items l.lines.items l.z;
  inside : l.z < length (g.P.Sight.shape l.p).links;
  room : vec_capacity l.lines ≡ vec_capacity l.fn.lines;
}

abbrev pub decreases-loop-parent : goal.decreases-loop-parent
decreases-loop-parent g l = l.z
