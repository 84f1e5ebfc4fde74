use Rattle.std.specs.Prelude.{◌≡◌}
use Rattle.hg_crowd.proofs.CrowdLaws.{Absorbing}
use Rattle.hg_crowd.proofs.party.Party.absorb.Given as goal

abbrev pub invariant-nodes : goal.invariant-nodes
invariant-nodes g l = record {
  same : l.self-inside.shared.now ≡ l.initial.self-inside.shared.now;
  absorbing : Absorbing g.V.Verifier.accepts l.initial.self-inside.shared.now l.initial.self-inside.seats.items l.initial.others.items l.self-inside.seats.items l.others.items;
}

abbrev pub decreases-nodes : goal.decreases-nodes
decreases-nodes g l = goal.left-nodes g l
