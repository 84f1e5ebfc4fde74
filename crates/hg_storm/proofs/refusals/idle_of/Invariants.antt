use Rattle.std.proofs.Common.{◌≡◌, map, take}
use Rattle.hg_storm.specs.declared.desk.Log.{Log}
use Rattle.hg_storm.proofs.refusals.idle_of.Given as goal

abbrev pub invariant-loop-log : goal.invariant-loop-log
invariant-loop-log l = l.idle.items ≡ map (λ (g : Log). g.idle) (take l.log-index l.logs)
