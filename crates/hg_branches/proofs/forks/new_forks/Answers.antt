use Rattle.std.proofs.Common.{◌∙◌, ◌||◌, ◌&&◌, Bool, eqb, slice_index, sym, ap, ap₂}
use Rattle.hg_branches.specs.Columns.{counts_more, joined_counts}
use Rattle.hg_branches.specs.Rows.{RowView}
use Rattle.hg_branches.proofs.RowLaws.{forks_on_own_rows}
use Rattle.hg_branches.proofs.forks.new_forks.Goals as goal

pub returns-then-are_own : goal.returns-then-are_own
returns-then-are_own c = λ m.
    c.own_fork.ensures m
    ∙ sym (forks_on_own_rows c.args.counts.now c.args.makers.now c.requires.own c.requires.own_all c.args.first c.args.others.now c.args.next c.args.by m
    (sym c.is_own.ensures ∙ c.if-is_own.true) (sym c.is_own-then-is_own.ensures ∙ c.if-is_own-2.true) (sym c.are_own.ensures ∙ c.if-are_own.true))

pub returns : goal.returns
returns c = λ m.
    let makers = c.args.makers.now in
    let known = joined_counts c.args.counts.now.rows c.args.first c.args.others.now in
    c.meet_masks.ensures m
    ∙ (ap₂ (λ (a b : Bool). a && b) (c.with_member-here.ensures m ∙ ap (λ a. eqb m c.args.by || a) (c.members_over.ensures m)) (c.members_past.ensures m)
    ∙ ap (λ (r : RowView). (eqb m c.args.by || counts_more makers known (slice_index r.row) m) && counts_more makers (slice_index r.row) known m) c.row_of-there.ensures)
