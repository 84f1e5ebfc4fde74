use Rattle.std.proofs.Common.{◌≡◌}
use Rattle.std.specs.Prelude.{All}
use Rattle.hg_life.specs.Members.{has_node}
use Rattle.hg_model.specs.Places.{list_below}
use Rattle.hg_play.specs.Summaries.{IsTold, told_at}
use Rattle.hg_play.proofs.summaries.summary_of.Given as goal

abbrev pub invariant-loop-member : goal.invariant-loop-member
invariant-loop-member l = record {
  told : l.nodes.items ≡ list_below (told_at l.world) l.member (has_node l.members);
  each : All (IsTold l.world) l.nodes.items;
}
