use Rattle.std.proofs.Common.{◌≡◌, map, take}
use Rattle.hg_storm.specs.Refusals.{refusal_of}
use Rattle.hg_storm.proofs.refusals.name_refused.Given as goal

abbrev pub invariant-loop-one : goal.invariant-loop-one
invariant-loop-one l = l.named.items ≡ map (refusal_of l.nodes l.taken) (take l.one-index l.refused)
