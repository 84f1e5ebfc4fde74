use Rattle.std.proofs.Common.{sym, arith}
use Rattle.hg_model.proofs.AncestryLaws.{is_self_ancestor_self}
use Rattle.hg_order.proofs.LineLaws.{first_holder_is, self_parent_before, line_down, new_by_parent, new_without_parent}
use Rattle.hg_order.proofs.time.first_holder.Goals as goal

pub loop-before-init : goal.loop-before-init
loop-before-init g c = record {
  on_line = is_self_ancestor_self _ c.requires.shaped.earlier c.args.w;
  holds = c.requires.has;
  low = omega arith;
}

pub ancestor-requires-clause-left : goal.ancestor-requires-clause-left
ancestor-requires-clause-left g c =
    let before = self_parent_before _ c.requires.shaped.earlier _ _ c.in-Some.ensures in
    let low = c.loop-before.invariant.low in
    let line = c.requires.line in
    omega arith

pub loop-before-smaller : goal.loop-before-smaller
loop-before-smaller g c = self_parent_before _ c.requires.shaped.earlier _ _ c.in-Some.ensures

pub loop-before-preserved : goal.loop-before-preserved
loop-before-preserved g c =
    let before = self_parent_before _ c.requires.shaped.earlier _ _ c.in-Some.ensures in
    let low = c.loop-before.invariant.low in
    record {
      on_line = line_down _ c.requires.shaped.earlier _ _ _ c.loop-before.invariant.on_line c.in-Some.ensures;
      holds = sym c.if-not-ancestor.ensures;
      low = omega arith;
    }

pub returns-then-not-ancestor-clause-value : goal.returns-then-not-ancestor-clause-value
returns-then-not-ancestor-clause-value g c =
    sym (first_holder_is _ c.requires.shaped.earlier c.args.x c.args.w c.loop-before.z (record {
      on_line = c.loop-before.invariant.on_line;
      holds = c.loop-before.invariant.holds;
      first = new_by_parent _ c.args.x c.loop-before.z c.in-Some.before c.in-Some.ensures c.if-not-ancestor.ensures;
    }))

pub returns-in_default-clause-value : goal.returns-in_default-clause-value
returns-in_default-clause-value g c =
    sym (first_holder_is _ c.requires.shaped.earlier c.args.x c.args.w c.loop-before.z (record {
      on_line = c.loop-before.invariant.on_line;
      holds = c.loop-before.invariant.holds;
      first = new_without_parent _ c.args.x c.loop-before.z c.in_default.ensures;
    }))
