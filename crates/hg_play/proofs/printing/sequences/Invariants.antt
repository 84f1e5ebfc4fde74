use Rattle.std.proofs.Common.{◌≡◌}
use Rattle.hg_model.specs.Places.{table}
use Rattle.hg_model.specs.Order.{sequence_of}
use Rattle.hg_play.proofs.printing.sequences.Given as goal

abbrev pub invariant-loop-x : goal.invariant-loop-x
invariant-loop-x g l = l.sequences.items ≡ table (sequence_of (g.S.Sight.shape l.sight).links) l.x
