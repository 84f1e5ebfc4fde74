use Rattle.std.proofs.Common.{◌≡◌, length}
use Rattle.hg_graph.specs.Names.{AreLinked, hashes_of}
use Rattle.hg_graph.proofs.names.link_all.Given as goal

abbrev pub invariant-loop-x : goal.invariant-loop-x
invariant-loop-x l = record {
  same : hashes_of l.hashed ≡ hashes_of l.fn.hashed;
  long : length l.hashed ≡ length l.fn.hashed;
  len : length l.heads ≡ length l.fn.heads;
  linked : AreLinked l.heads l.hashed l.x;
}
