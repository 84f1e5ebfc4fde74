use Rattle.hg_event.proofs.FrontLaws.{first_counted, first_fault}
use Rattle.hg_event.proofs.FrontSizes.{early_end, none_trail, spelling_size}
use Rattle.hg_event.proofs.FrontsStand.{first_stands}
use Rattle.hg_event.proofs.laws.front_events.Goals as goal

pub returns-clause-stand : goal.returns-clause-stand
returns-clause-stand c = first_stands

pub returns-clause-read : goal.returns-clause-read
returns-clause-read c = first_counted

pub returns-clause-sized : goal.returns-clause-sized
returns-clause-sized c = spelling_size

pub returns-clause-short : goal.returns-clause-short
returns-clause-short c = early_end

pub returns-clause-none_trails : goal.returns-clause-none_trails
returns-clause-none_trails c = none_trail

pub returns-clause-faults : goal.returns-clause-faults
returns-clause-faults c = first_fault
