use Rattle.std.proofs.Common.{◌≡◌, ◌++◌, take, drop}
use Rattle.hg_life.specs.Signing.{masked}
use Rattle.hg_sign.proofs.key.mask_all.Given as goal

abbrev pub invariant-loop-byte : goal.invariant-loop-byte
invariant-loop-byte l = l.block ≡ masked l.mask (take l.byte-index l.initial.block) ++ drop l.byte-index l.initial.block
