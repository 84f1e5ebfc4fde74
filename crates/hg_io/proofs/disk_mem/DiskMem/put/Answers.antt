use Rattle.std.proofs.Common.{rules, arith, ◌≡◌, ◌+◌, ◌++◌, ◌∷◌, [], length, ap, sym, ◌∙◌, length-append, length-drop, length-take}
use Rattle.hg_io.specs.DiskState.{DiskState}
use Rattle.hg_io.specs.FileLaws.{length-with_piece}
use Rattle.hg_io.specs.Pending.DiskCall.{Wrote}
use Rattle.hg_io.specs.Recorded.{calls_of}
use Rattle.hg_io.specs.contracts.disk_mem.DiskMem.{the_view}
use Rattle.hg_io.proofs.Recording.{calls_wrote, length-calls_of, recorded_wrote}
use Rattle.hg_io.proofs.disk_mem.DiskMem.put.Goals as goal

pub push_reserved-requires : goal.push_reserved-requires
push_reserved-requires c =
    let as_many : length c.args.self.now.done ≡ length c.self.inside.done.items =
    ap (λ (d : DiskState). length d.done) (sym c.self.view_is) ∙ length-calls_of c.self.inside.pieces.items c.self.inside.done.items in
    omega (arith, as_many, c.requires.record, ap (λ (d : DiskState). d.room) c.self.view_is, c.self.invariant.8)

pub invariant_of-self : goal.invariant_of-self
invariant_of-self c =
    let pieces : c.extend_from_slice.new.self.items ≡ c.self.inside.pieces.items ++ c.args.piece.now = search rules in
    let added = ap length pieces ∙ length-append c.self.inside.pieces.items c.args.piece.now in
    let size = ap length c.overwrite.ensures.after ∙ length-with_piece c.args.at c.args.piece.now c.self.inside.bytes.items in
    let front = length-take c.args.at c.self.inside.bytes.items in
    let behind = length-drop (c.args.at + length c.args.piece.now) c.self.inside.bytes.items in (
      rw (c.overwrite.ensures.after, pieces, c.push_reserved.ensures.items) (recorded_wrote _ _ _ _ c.args.piece.now _ c.args.at c.self.invariant.0),
      omega (arith, size, front, behind, c.self.invariant.1),
      omega (arith, size, front, behind, added, c.self.invariant.2),
      omega (arith, added, c.requires.bytes, ap (λ (d : DiskState). d.used) c.self.view_is, ap (λ (d : DiskState). d.room) c.self.view_is),
      search rules,
      search rules,
      search rules,
      search rules,
      search rules,
    )

pub returns : goal.returns
returns c =
    let pieces : c.extend_from_slice.new.self.items ≡ c.self.inside.pieces.items ++ c.args.piece.now = search rules in
    let added = ap length pieces ∙ length-append c.self.inside.pieces.items c.args.piece.now in
    let used : length c.self.inside.first.items + length c.extend_from_slice.new.self.items ≡ length c.self.inside.first.items + length c.self.inside.pieces.items + length c.args.piece.now = omega (arith, added) in
    let done : calls_of c.extend_from_slice.new.self.items c.push_reserved.new.self.items ≡ calls_of c.self.inside.pieces.items c.self.inside.done.items ++ Wrote c.args.at c.args.piece.now ∷ [] =
    rw (pieces, c.push_reserved.ensures.items) (calls_wrote c.self.inside.pieces.items c.args.piece.now c.self.inside.done.items c.args.at c.self.invariant.0.whole) in
    (λ i. record (the_view c.self.inside) { done = done i; used = used i })
    ∙ ap (λ (d : DiskState). record d { done = d.done ++ Wrote c.args.at c.args.piece.now ∷ []; used = d.used + length c.args.piece.now }) c.self.view_is
