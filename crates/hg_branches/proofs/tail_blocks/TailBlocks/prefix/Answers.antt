use Rattle.std.proofs.Common.{◌∙◌, ◌≤◌, ◌-◌, ◌*◌, ◌/◌, ap, sym, subst, length, take, arith}
use Rattle.std.proofs.lemmas.List.{length-take-le, length-take}
use Rattle.hg_branches.specs.Tails.{TailsWithRoom}
use Rattle.hg_branches.proofs.TailBlockLaws.{whole_within, open_within, few_open, first_joined, full_shared, same_tails}
use Rattle.hg_branches.proofs.tail_blocks.TailBlocks.prefix.Goals as goal

pub block-part-requires-clause-place : goal.block-part-requires-clause-place
block-part-requires-clause-place c =
    let s = c.self.inside in
    let h = c.self.invariant in
    let within = subst (λ (t : TailsWithRoom). c.args.len ≤ length t.rows) (sym c.self.view_is) c.requires in
    rw (c.deref.ensures.value, c.saturating_sub-whole.ensures) (whole_within s.sealed.items s.last.rows h.full h.few c.args.len within)

pub slice_bounds-from_clones-end : goal.slice_bounds-from_clones-end
slice_bounds-from_clones-end c =
    let s = c.self.inside in
    let h = c.self.invariant in
    let within = subst (λ (t : TailsWithRoom). c.args.len ≤ length t.rows) (sym c.self.view_is) c.requires in
    sym (length-take-le _ _ (rw (c.deref-2.ensures.value, c.saturating_sub-whole.ensures) (whole_within s.sealed.items s.last.rows h.full h.few c.args.len within)))

pub prefix-requires : goal.prefix-requires
prefix-requires c =
    let s = c.self.inside in
    let h = c.self.invariant in
    let within = subst (λ (t : TailsWithRoom). c.args.len ≤ length t.rows) (sym c.self.view_is) c.requires in
    rw (c.block-part.ensures, c.deref.ensures.value, c.saturating_sub-whole.ensures) (open_within s.sealed.items s.last.rows h.full h.few c.args.len within)

pub invariant_of-result : goal.invariant_of-result
invariant_of-result c =
    let s = c.self.inside in
    let h = c.self.invariant in
    let whole = c.saturating_sub-whole.result / 64 in
    let rest = c.args.len - 64 * whole in
    let within = subst (λ (t : TailsWithRoom). c.args.len ≤ length t.rows) (sym c.self.view_is) c.requires in
    record {
      full = full_shared whole s.sealed.items c.in_ok-from_clones.field-0.items (rw c.deref-2.ensures.value at c.in_ok-from_clones.ensures.items) h.full;
      few = omega (arith, ap length c.in_ok-prefix.ensures, length-take rest c.block-part.result.now.rows, c.saturating_sub-whole.ensures, few_open s.sealed.items s.last.rows h.full h.few c.args.len within);
    }

pub returns : goal.returns
returns c =
    let s = c.self.inside in
    let h = c.self.invariant in
    let within = subst (λ (t : TailsWithRoom). c.args.len ≤ length t.rows) (sym c.self.view_is) c.requires in
    rw (same_tails _ _ c.in_ok-from_clones.ensures.items, c.in_ok-prefix.ensures, c.block-part.ensures, c.deref.ensures.value, c.deref-2.ensures.value, c.saturating_sub-whole.ensures)
    (first_joined s.sealed.items s.last.rows h.full h.few c.args.len within ∙ ap (λ (t : TailsWithRoom). take c.args.len t.rows) c.self.view_is)
