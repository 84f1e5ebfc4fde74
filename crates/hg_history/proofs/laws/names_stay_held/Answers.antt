use Rattle.hg_history.proofs.HeldLaws.{accepted_held, held_stays, known_entry, known_held, made_held}
use Rattle.hg_history.proofs.laws.names_stay_held.Goals as goal

pub returns-clause-stays : goal.returns-clause-stays
returns-clause-stays g c = held_stays

pub returns-clause-accepted : goal.returns-clause-accepted
returns-clause-accepted g c = accepted_held _

pub returns-clause-known : goal.returns-clause-known
returns-clause-known g c = known_held _

pub returns-clause-entry : goal.returns-clause-entry
returns-clause-entry g c = known_entry _

pub returns-clause-made : goal.returns-clause-made
returns-clause-made g c = made_held _
