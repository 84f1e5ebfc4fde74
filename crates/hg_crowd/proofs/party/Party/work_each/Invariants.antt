use Rattle.std.specs.Prelude.{◌≡◌}
use Rattle.hg_crowd.proofs.CrowdLaws.{Working}
use Rattle.hg_crowd.proofs.party.Party.work_each.Given as goal

abbrev pub invariant-nodes : goal.invariant-nodes
invariant-nodes g l = record {
  same : l.self-inside.shared.now ≡ l.initial.self-inside.shared.now;
  working : Working g.V.Verifier.accepts l.initial.self-inside.shared.now l.fn.share l.initial.self-inside.seats.items l.self-inside.seats.items l.i;
}
