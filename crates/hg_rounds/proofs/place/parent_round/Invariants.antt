use Rattle.std.proofs.Common.{◌≡◌, take}
use Rattle.hg_model.specs.Rounds.{parent_round}
use Rattle.hg_model.specs.Standings.{round_at}
use Rattle.hg_rounds.proofs.place.parent_round.Given as goal

abbrev pub invariant-loop-place : goal.invariant-loop-place
invariant-loop-place l = l.greatest ≡ parent_round (round_at l.table.standings) (take l.place-index l.parents)
