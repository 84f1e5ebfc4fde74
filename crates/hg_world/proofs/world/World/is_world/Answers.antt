use Rattle.std.proofs.Common.{subst}
use Rattle.hg_runs.specs.Safety.{IsSafe}
use Rattle.hg_world.specs.World.{WorldView, run_of}
use Rattle.hg_world.proofs.WorldLaws.{safe}
use Rattle.hg_world.proofs.world.World.is_world.Goals as goal

pub returns-clause-safe : goal.returns-clause-safe
returns-clause-safe c = subst (λ (w : WorldView). IsSafe w.members w.coin (run_of w)) c.self.view_is (safe _ c.self.invariant.0.world)
