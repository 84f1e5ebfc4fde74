use Rattle.std.proofs.Common.{◌∙◌, ◌<◌, length, subst, sym}
use Rattle.hg_model.specs.Prefix.{Graph}
use Rattle.hg_life.specs.NodeView.{node_rows}
use Rattle.hg_answering.proofs.TellLaws.{last_own_inside}
use Rattle.hg_answering.proofs.making.next_other.Goals as goal

pub is_last_of_all-requires : goal.is_last_of_all-requires
is_last_of_all-requires g c =
    let place = last_own_inside c.args.node.now.start.own (node_rows c.args.node.now) c.in-Some.place (sym c.last_own.ensures ∙ c.in-Some.is) in
    subst (λ (h : Graph). c.in-Some.place < length h.rows) (sym c.graph.ensures) place
