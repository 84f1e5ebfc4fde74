use Rattle.std.proofs.Common.{rules, arith, ◌≡◌, ◌++◌, ◌∷◌, [], length, ap, sym, ◌∙◌}
use Rattle.hg_io.specs.DiskState.{DiskState}
use Rattle.hg_io.specs.Pending.DiskCall.{Synced}
use Rattle.hg_io.specs.Recorded.{calls_of}
use Rattle.hg_io.specs.contracts.disk_mem.DiskMem.{the_view}
use Rattle.hg_io.proofs.Recording.{calls_synced, length-calls_of, recorded_synced}
use Rattle.hg_io.proofs.disk_mem.DiskMem.keep.Goals as goal

pub push_reserved-requires : goal.push_reserved-requires
push_reserved-requires c =
    let as_many : length c.args.self.now.done ≡ length c.self.inside.done.items =
    ap (λ (d : DiskState). length d.done) (sym c.self.view_is) ∙ length-calls_of c.self.inside.pieces.items c.self.inside.done.items in
    omega (arith, as_many, c.requires, ap (λ (d : DiskState). d.room) c.self.view_is, c.self.invariant.8)

pub invariant_of-self : goal.invariant_of-self
invariant_of-self c =
    let same : c.set_to.new.bytes.items ≡ c.self.inside.bytes.items = search rules in (
      rw (same, c.push_reserved.ensures.items) (recorded_synced _ _ _ _ _ c.self.invariant.0),
      omega (arith, ap length same),
      search rules,
      search rules,
      search rules,
      search rules,
      search rules,
      search rules,
      search rules,
    )

pub returns : goal.returns
returns c =
    let done : calls_of c.self.inside.pieces.items c.push_reserved.new.self.items ≡ calls_of c.self.inside.pieces.items c.self.inside.done.items ++ Synced ∷ [] =
    rw c.push_reserved.ensures.items (calls_synced c.self.inside.pieces.items c.self.inside.done.items) in
    (λ i. record (the_view c.self.inside) { done = done i }) ∙ ap (λ (d : DiskState). record d { done = d.done ++ Synced ∷ [] }) c.self.view_is
