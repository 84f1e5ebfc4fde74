use Rattle.std.proofs.Common.{◌≡◌, ◌-◌, ◌≤◌, []}
use Rattle.hg_wire.specs.Outcome.{Unfinished}
use Rattle.hg_wire.specs.Ears.{means, most}
use Rattle.hg_wire.proofs.Sources.{IsReceiving}
use Rattle.hg_wire.proofs.receiving.listen.Given as goal

abbrev pub invariant-pieces : goal.invariant-pieces
invariant-pieces g l =
    let source = g.S.Source in
    record {
      so_far : IsReceiving (means l.fn.ear) (means l.ear) (source.left l.fn.source) (source.left l.source) l.at;
      waits : means l.ear [] ≡ Unfinished;
      counts : source.faults l.fn.source ≤ source.faults l.source;
    }

abbrev pub decreases-pieces : goal.decreases-pieces
decreases-pieces g l = most - l.at
