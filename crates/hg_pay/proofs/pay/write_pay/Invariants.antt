use Rattle.std.proofs.Common.{◌≡◌, ◌∷◌, length, take}
use Rattle.hg_life.specs.Pay.{transfers_bytes}
use Rattle.hg_pay.proofs.pay.write_pay.Given as goal

abbrev pub invariant-loop-transfer : goal.invariant-loop-transfer
invariant-loop-transfer l = l.bytes.items ≡ length l.transfers ∷ transfers_bytes (take l.transfer-index l.transfers)
