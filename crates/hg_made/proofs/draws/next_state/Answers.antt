use Rattle.std.proofs.Math.Nat.{mod-add-mod}
use Rattle.std.proofs.Common.{◌*◌, ◌^◌}
use Rattle.hg_made.specs.Draws.{multiplier, increment}
use Rattle.hg_made.proofs.draws.next_state.Goals as goal

pub returns : goal.returns
returns c = mod-add-mod (c.args.state * multiplier) (2 ^ 64) increment
