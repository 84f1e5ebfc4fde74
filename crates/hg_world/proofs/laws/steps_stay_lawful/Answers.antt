use Rattle.hg_world.proofs.LawfulLaws.{stay_lawful, worlds_have_events}
use Rattle.hg_world.proofs.WorldLaws.{safe}
use Rattle.hg_world.proofs.laws.steps_stay_lawful.Goals as goal

pub returns-clause-lawful : goal.returns-clause-lawful
returns-clause-lawful c = stay_lawful

pub returns-clause-events : goal.returns-clause-events
returns-clause-events c = worlds_have_events

pub returns-clause-safe : goal.returns-clause-safe
returns-clause-safe c = safe
