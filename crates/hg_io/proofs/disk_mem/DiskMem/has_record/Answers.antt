use Rattle.std.proofs.Common.{rules, ◌≡◌, length, ap, sym, ◌∙◌}
use Rattle.hg_io.specs.DiskState.{DiskState}
use Rattle.hg_io.proofs.Recording.{length-calls_of}
use Rattle.hg_io.proofs.disk_mem.DiskMem.has_record.Goals as goal

pub returns : goal.returns
returns c =
    let as_many : length c.args.self.now.done ≡ length c.self.inside.done.items =
    ap (λ (d : DiskState). length d.done) (sym c.self.view_is) ∙ length-calls_of c.self.inside.pieces.items c.self.inside.done.items in
    search (rules, as_many)
