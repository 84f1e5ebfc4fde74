use Rattle.std.proofs.Common.{sym, subst}
use Rattle.hg_io.specs.Printing.{PutsOn}
use Rattle.hg_keep.specs.declared.kept.Making.{Making}
use Rattle.hg_keep.specs.Text.{making_line}
use Rattle.hg_keep.proofs.printing.write_making.Goals as goal

pub returns-in-PeerBare : goal.returns-in-PeerBare
returns-in-PeerBare g c =
    subst (λ (told : Making). PutsOn g.K.Sink c.args.sink.now c.write_pieces-in-PeerBare.new.sink c.args.page.now c.write_pieces-in-PeerBare.new.page (making_line told) c.write_pieces-in-PeerBare.result)
    (sym c.in-PeerBare.is) c.write_pieces-in-PeerBare.ensures
