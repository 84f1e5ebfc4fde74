use Rattle.std.proofs.Common.{◌≡◌, take}
use Rattle.hg_storm.specs.Mails.{names_in}
use Rattle.hg_storm.proofs.mails.first_names.Given as goal

abbrev pub invariant-loop-place : goal.invariant-loop-place
invariant-loop-place l = l.names.items ≡ take l.place (names_in l.node)
