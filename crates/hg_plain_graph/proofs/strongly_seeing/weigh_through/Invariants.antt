use Rattle.std.proofs.Common.{◌≡◌, ◌≤◌, ◌*◌}
use Rattle.hg_model.specs.Places.{weight_below}
use Rattle.hg_model.specs.Stakes.{stake_of}
use Rattle.hg_plain_graph.specs.Tables.{cell_at}
use Rattle.hg_plain_graph.proofs.strongly_seeing.weigh_through.Given as goal

abbrev pub invariant-loop-member : goal.invariant-loop-member
invariant-loop-member l = record {
  weight : l.weight ≡ weight_below (stake_of l.stakes) l.member (cell_at l.through l.x);
  low : l.weight ≤ 4294967295 * l.member;
}
