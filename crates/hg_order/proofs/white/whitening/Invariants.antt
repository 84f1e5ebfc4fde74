use Rattle.std.proofs.Common.{◌≡◌, take, length}
use Rattle.hg_order.specs.Famous.{whitening_of}
use Rattle.hg_order.proofs.white.whitening.Given as goal

abbrev pub invariant-loop-w : goal.invariant-loop-w
invariant-loop-w g l = record { value : l.white ≡ whitening_of (g.P.Prefix.graph l.p).rows (take l.w-index l.places); long : length l.white ≡ 64 }
