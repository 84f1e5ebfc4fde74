use Rattle.std.proofs.Common.{◌≡◌, ◌∙◌, ◌++◌, ◌+◌, ◌*◌, ◌≤◌, min, ap, sym, arith, length, rules, subst}
use Rattle.std.proofs.lemmas.List.{length-append}
use Rattle.hg_blocks.specs.Rows.{RowsWithRoom}
use Rattle.hg_blocks.proofs.RowLaws.{capped}
use Rattle.hg_blocks.proofs.rows.RowBlocks.push.Goals as goal

pub invariant_of-self : goal.invariant_of-self
invariant_of-self g c =
    let s = c.self.inside in
    let h = c.self.invariant in
    let longer : c.extend_from_slice.new.self.items ≡ s.tail.items ++ c.args.row.now = search rules in
    let width : length c.args.row.now ≡ s.width = c.requires.whole ∙ ap (λ (v : RowsWithRoom _). v.width) (sym c.self.view_is) in
    let room = subst (λ (v : RowsWithRoom _). 1 ≤ v.room) (sym c.self.view_is) c.requires.room in
    let long : length c.extend_from_slice.new.self.items ≡ (h.rows + 1) * s.width = omega (arith, ap length longer, length-append s.tail.items c.args.row.now, width, h.whole) in
    record {
      full = h.full;
      rows = min 64 (h.rows + 1);
      few = omega arith;
      whole = long ∙ capped s.width (h.rows + 1) (omega (arith, room, h.whole));
    }
