use Rattle.std.proofs.Common.{◌≡◌, [], take}
use Rattle.std.specs.List.{flat_map}
use Rattle.hg_wire.specs.Outcome.{Unfinished}
use Rattle.hg_wire.specs.Grammar.{AreBytes}
use Rattle.hg_wire.specs.Ears.{HasHeard, means}
use Rattle.hg_wire.proofs.laws.hear_each.Given as goal

abbrev pub invariant-loop-piece : goal.invariant-loop-piece
invariant-loop-piece l = record {
  heard : HasHeard l.fn.want (flat_map (λ piece. piece.items) (take l.piece-index l.pieces)) l.ear;
  waits : means l.ear [] ≡ Unfinished;
  fit : AreBytes (flat_map (λ piece. piece.items) (take l.piece-index l.pieces));
}
