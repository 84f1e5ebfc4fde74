use Rattle.std.proofs.Common.{◌≡◌, ◌≤◌, take, length}
use Rattle.std.specs.Prelude.{vec_capacity}
use Rattle.hg_world.specs.Steps.{HasRun}
use Rattle.hg_world.proofs.world.World.apply_all.Given as goal

abbrev pub invariant-loop-step : goal.invariant-loop-step
invariant-loop-step l = record {
  run : HasRun l.initial.self (take l.step-index l.steps) l.replies.items l.self;
  count : length l.replies.items ≡ l.step-index;
  room : length l.steps ≤ vec_capacity l.replies;
}
