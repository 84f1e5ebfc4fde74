use Rattle.std.proofs.Common.{◌≡◌, ◌≤◌, ◌*◌, slice_index}
use Rattle.hg_model.specs.Rounds.{is_seen_witness, weight_of}
use Rattle.hg_plain_graph.proofs.rounds.weigh_seen.Given as goal

abbrev pub invariant-loop-y : goal.invariant-loop-y
invariant-loop-y l = record {
  weight : l.weight ≡ weight_of l.seeing.members l.seeing.links l.y (is_seen_witness (λ k. slice_index l.rounds k) l.seeing.members l.seeing.links l.r l.x);
  low : l.weight ≤ 4294967295 * l.y;
}
