use Rattle.std.proofs.Common.{length, ◌∙◌, ap, arith, subst}
use Rattle.hg_model.specs.Places.{has_place, some_below}
use Rattle.hg_model.specs.Links.{links, parents}
use Rattle.hg_node.specs.Beyond.{AreFlagged}
use Rattle.hg_node.proofs.FlagLaws.{parents_none, parents_more, parents_flagged}
use Rattle.hg_node.proofs.beyond.flag_every_parent.Goals as goal

pub loop-x-init : goal.loop-x-init
loop-x-init c =
    let G = c.args.graph.now.graph.rows in
    subst (AreFlagged (length G) (λ y. some_below 0 (λ z. has_place (parents (links G) z) y))) (Rattle.std.proofs.Common.sym c.requires) (parents_none (links G) (length G))

pub loop-x-preserved : goal.loop-x-preserved
loop-x-preserved c =
    let G = c.args.graph.now.graph.rows in
    parents_more (links G) (length G) c.loop-x.x c.loop-x.flags c.flag_parents.new.flags c.flag_parents.ensures c.loop-x.invariant

pub returns : goal.returns
returns c =
    parents_flagged c.args.graph.now.graph.rows c.loop-x.x c.loop-x.flags (omega (arith, c.len-x-end.ensures.value, c.loop-x-test.false, c.loop-x.auto.x-end)) c.loop-x.invariant
