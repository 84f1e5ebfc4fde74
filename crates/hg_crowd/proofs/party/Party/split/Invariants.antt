use Rattle.std.specs.Prelude.{◌≡◌, vec_capacity}
use Rattle.hg_crowd.proofs.CrowdLaws.{Splitting}
use Rattle.hg_crowd.proofs.party.Party.split.Given as goal

abbrev pub invariant-nodes : goal.invariant-nodes
invariant-nodes g l = record {
  same : l.self-inside.shared.now ≡ l.initial.self-inside.shared.now;
  split : Splitting l.initial.self-inside.seats.items l.self-inside.seats.items l.seats.items l.i l.count (vec_capacity l.seats);
}
