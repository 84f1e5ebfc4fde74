use Rattle.std.proofs.Common.{◌∙◌, refl, arith}
use Rattle.hg_kept.proofs.WalkLaws.{walk_none, walk_next, walk_room}
use Rattle.hg_kept.proofs.walking.list_line.Goals as goal

pub line-init : goal.line-init
line-init g c = (walk_none _ c.args.low c.args.end c.args.fresh.now.items, refl)

pub push_reserved-requires : goal.push_reserved-requires
push_reserved-requires g c =
    let room = walk_room _ c.args.low c.args.end c.args.fresh.now.items c.line.last c.end_before-last.result c.line.fresh.items c.line.invariant.0 c.line-test.true c.requires.end c.end_before-last.ensures in
    omega (arith, c.line.invariant.1, c.requires.room)

pub line-preserved : goal.line-preserved
line-preserved g c =
    rw c.push_reserved.ensures.items (
      walk_next _ c.args.low c.args.end c.args.fresh.now.items c.line.last c.end_before-last.result c.line.fresh.items c.line.invariant.0 c.line-test.true c.requires.end c.end_before-last.ensures,
      c.push_reserved.ensures.capacity ∙ c.line.invariant.1,
    )
