use Rattle.std.proofs.Common.{◌∙◌, arith}
use Rattle.hg_branches.proofs.OwnLaws.{narrow_fits, wide_fits, narrow_read, wide_read}
use Rattle.hg_branches.proofs.own_counts.row_in.Goals as goal

pub row-requires : goal.row-requires
row-requires c = (let has = c.requires in narrow_fits has.rows c.args.narrow.now c.args.wide.now has.held c.args.x has.inside c.if-x-lt-NARROW_ROWS.true)

pub row-requires-else-x-lt-NARROW_ROWS : goal.row-requires-else-x-lt-NARROW_ROWS
row-requires-else-x-lt-NARROW_ROWS c = (let has = c.requires in wide_fits has.rows c.args.narrow.now c.args.wide.now has.held c.args.x has.inside (omega arith))

pub returns-then-x-lt-NARROW_ROWS-clause-value : goal.returns-then-x-lt-NARROW_ROWS-clause-value
returns-then-x-lt-NARROW_ROWS-clause-value c = λ b h.
    let has = c.requires in
    c.row.ensures.value b 0 h ∙ narrow_read has.rows c.args.narrow.now c.args.wide.now has.held c.args.x has.inside c.if-x-lt-NARROW_ROWS.true b h

pub returns-else-x-lt-NARROW_ROWS-clause-value : goal.returns-else-x-lt-NARROW_ROWS-clause-value
returns-else-x-lt-NARROW_ROWS-clause-value c = λ b h.
    let has = c.requires in
    c.row-else-x-lt-NARROW_ROWS.ensures.value b 0 (let same = has.held.same in omega arith) ∙ wide_read has.rows c.args.narrow.now c.args.wide.now has.held c.args.x has.inside (omega arith) b h

pub returns-else-x-lt-NARROW_ROWS-clause-len : goal.returns-else-x-lt-NARROW_ROWS-clause-len
returns-else-x-lt-NARROW_ROWS-clause-len c = c.row-else-x-lt-NARROW_ROWS.ensures.len ∙ c.requires.held.same
