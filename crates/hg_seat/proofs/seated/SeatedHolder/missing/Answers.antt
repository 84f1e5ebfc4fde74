use Rattle.std.proofs.Common.{arith}
use Rattle.std.proofs.lemmas.Grind.{common_steps}
use Rattle.hg_seat.proofs.seated.SeatedHolder.missing.Goals as goal

pub returns-clause-parcel : goal.returns-clause-parcel
returns-clause-parcel g c = grind (arith, common_steps)
