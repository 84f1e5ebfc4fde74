use Rattle.std.proofs.Common.{◌∙◌, ap}
use Rattle.hg_world.specs.World.{WorldView}
use Rattle.register.specs.Play.{turn_count, turned}
use Rattle.register.proofs.ReplicaLaws.{one_register}
use Rattle.register.proofs.play.Goals as goal

pub returns-clause-played : goal.returns-clause-played
returns-clause-played c = c.in_ok-sync_each.ensures ∙ ap (λ (w : WorldView). turned w turn_count) c.in_ok-open_each.ensures

pub returns-clause-safe : goal.returns-clause-safe
returns-clause-safe c = one_register _ c.is_world.ensures.world c.is_world.ensures.safe
