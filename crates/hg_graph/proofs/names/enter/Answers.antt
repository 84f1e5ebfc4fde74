use Rattle.std.proofs.Common.{◌-◌, ℕ, slice_index, arith}
use Rattle.hg_graph.proofs.HashedLaws.{enters_first, enters_below}
use Rattle.hg_graph.proofs.names.enter.Goals as goal

pub returns-then-first-eq0-clause-entered : goal.returns-then-first-eq0-clause-entered
returns-then-first-eq0-clause-entered c =
    let at = c.bucket_of-bucket.ensures in
    enters_first c.args.heads.now c.args.hashed.now c.args.hash c.args.number _ at.value at.inside c.requires.number c.requires.later c.if-first-eq0.true

pub hang-requires-clause-later : goal.hang-requires-clause-later
hang-requires-clause-later c = c.requires.later.below

pub hang-requires-clause-first : goal.hang-requires-clause-first
hang-requires-clause-first c = omega (arith, c.requires.later.first c.bucket_of-bucket.result, c.if-first-eq0.false, c.requires.number)

pub returns-else-first-eq0-clause-entered : goal.returns-else-first-eq0-clause-entered
returns-else-first-eq0-clause-entered c =
    let heads = c.args.heads.now in
    let bucket : ℕ = c.bucket_of-bucket.result in
    enters_below heads c.args.hashed.now c.args.hash c.args.number bucket (slice_index heads bucket - 1) c.hang.new.hashed c.bucket_of-bucket.ensures.value
    (omega (arith, c.if-first-eq0.false)) c.requires.later c.hang.ensures
