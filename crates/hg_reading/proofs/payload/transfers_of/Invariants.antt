use Rattle.std.proofs.Common.{◌≡◌, ◌≤◌, length, map}
use Rattle.std.specs.Prelude.{vec_capacity}
use Rattle.hg_script.specs.Payload.{transfer_of}
use Rattle.hg_script.specs.Words.{read_each}
use Rattle.hg_reading.proofs.WalkLaws.{and_then, left_of}
use Rattle.hg_reading.proofs.payload.transfers_of.Given as goal

abbrev pub invariant-loop-part : goal.invariant-loop-part
invariant-loop-part l = record {
  read : read_each (transfer_of l.members) (map (λ part. part.now) l.parts) ≡ and_then l.transfers.items (left_of (λ part. part.now) (transfer_of l.members) l.parts l.part-index);
  many : length l.transfers.items ≡ l.part-index;
  room : length l.parts ≤ vec_capacity l.transfers;
}
