use Rattle.std.proofs.Common.{◌≡◌, ◌++◌, take}
use Rattle.hg_proof.specs.Certificate.{rows_bytes}
use Rattle.hg_proof.proofs.writing.push_rows.Given as goal

abbrev pub invariant-loop-place : goal.invariant-loop-place
invariant-loop-place l = l.bytes.items ≡ l.initial.bytes.items ++ rows_bytes (take l.place l.graph.graph.rows)
