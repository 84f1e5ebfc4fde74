use Rattle.std.proofs.Common.{◌∙◌, sym}
use Rattle.hg_life.specs.NodeView.{node_rows}
use Rattle.hg_answering.proofs.TellLaws.{last_own_inside, told_time}
use Rattle.hg_answering.proofs.telling.last_told.Goals as goal

pub row-requires : goal.row-requires
row-requires g c = last_own_inside c.args.node.now.start.own (node_rows c.args.node.now) c.in_ok-place.place (sym c.last_own.ensures ∙ c.in_ok-place.was)

pub returns : goal.returns
returns g c =
    told_time c.args.node.now.start.own (node_rows c.args.node.now) c.in_ok-place.place c.row.result.now (sym c.last_own.ensures ∙ c.in_ok-place.was) c.row.ensures
