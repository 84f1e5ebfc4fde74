use Rattle.std.proofs.Common.{◌∙◌, ◌∷◌, ℕ, List, slice_index, ap, arith}
use Rattle.std.specs.List.{list_any}
use Rattle.std.proofs.lemmas.List.{take_all}
use Rattle.hg_branches.specs.Columns.{count_in, counts_more}
use Rattle.hg_branches.proofs.RowLaws.{counts_more-any}
use Rattle.hg_branches.proofs.forks.members_over.Goals as goal

pub returns : goal.returns
returns c = λ m.
    let rows = c.args.counts.now.rows in
    let others = c.args.others.now in
    let there = slice_index c.args.there.now.row in
    c.loop-row.invariant m
    ∙ (ap (λ (ps : List ℕ). list_any (λ p. counts_more c.args.makers.now (count_in rows p) there m) (c.args.first ∷ ps)) (take_all c.loop-row.row-index others (omega (arith, c.loop-row-test.false)))
    ∙ counts_more-any c.args.makers.now (count_in rows) (c.args.first ∷ others) there m)
