use Rattle.std.proofs.Common.{◌≡◌, map, take}
use Rattle.std.specs.Global.{Vec}
use Rattle.hg_storm.specs.declared.refusals.Refusal.{Refusal}
use Rattle.hg_storm.specs.Refusals.{refusals_of}
use Rattle.hg_storm.proofs.refusals.refused_of.Given as goal

abbrev pub invariant-loop-log : goal.invariant-loop-log
invariant-loop-log l = map (λ (r : Vec Refusal). r.items) l.refused.items ≡ map (refusals_of l.nodes) (take l.log-index l.logs)
