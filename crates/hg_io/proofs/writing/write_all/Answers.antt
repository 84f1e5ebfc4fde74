use Rattle.std.proofs.Common.{rules}
use Rattle.std.proofs.lemmas.List.{take_rest}
use Rattle.hg_io.proofs.Appended.{Appends-rest}
use Rattle.hg_io.proofs.writing.write_all.Goals as goal

pub pieces-preserved : goal.pieces-preserved
pieces-preserved g c =
    let taken = rw (take_rest c.args.bytes.now c.pieces.at) at c.in_ok-at.ensures.taken in
    record {
      within = search rules;
      written = Appends-rest _ _ _ _ _ _ c.pieces.invariant.written taken;
      count = search rules;
    }
