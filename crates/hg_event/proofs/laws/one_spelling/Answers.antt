use Rattle.std.proofs.Common.{refl, sym, ◌∙◌}
use Rattle.hg_event.proofs.Reading.{same_done}
use Rattle.hg_event.proofs.Spells.{Spells-read_event}
use Rattle.hg_event.proofs.laws.one_spelling.Goals as goal

pub returns-clause-some : goal.returns-clause-some
returns-clause-some c = λ row sized named. record { sized = sized; spelled = refl; named = named }

pub returns-clause-one : goal.returns-clause-one
returns-clause-one c = λ bytes others row spells other. spells.spelled ∙ sym other.spelled

pub returns-clause-of_one : goal.returns-clause-of_one
returns-clause-of_one c = λ bytes row other spells others.
    same_done row other (sym (Spells-read_event bytes row spells) ∙ Spells-read_event bytes other others)

pub returns-clause-read : goal.returns-clause-read
returns-clause-read c = Spells-read_event
