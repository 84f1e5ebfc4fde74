use Rattle.std.proofs.Common.{◌≡◌, ◌<◌, ℕ, length}
use Rattle.hg_graph.specs.Names.{IsUnlinked, hashed_at, hashes_of}
use Rattle.hg_graph.proofs.names.unlink.Given as goal

abbrev pub invariant-loop-x : goal.invariant-loop-x
invariant-loop-x l = record {
  same : hashes_of l.hashed ≡ hashes_of l.fn.hashed;
  long : length l.hashed ≡ length l.fn.hashed;
  done : (k : ℕ) → k < l.x → IsUnlinked (hashed_at l.hashed k);
}
