use Rattle.std.proofs.Common.{◌≡◌, ◌+◌, ◌≤◌, length}
use Rattle.hg_service.specs.Text.{cut}
use Rattle.hg_telling.proofs.digits.cut_count.Given as goal

abbrev pub invariant-parts : goal.invariant-parts
invariant-parts l = record {
  counted : l.count + length (cut l.rest) ≡ length (cut l.bytes);
  few : l.count + length l.rest ≤ length l.bytes;
}

abbrev pub decreases-parts : goal.decreases-parts
decreases-parts l = length l.rest
