use Rattle.std.proofs.Common.{◌∙◌}
use Rattle.hg_life.specs.NodeView.{node_rows}
use Rattle.hg_answering.proofs.OrderLaws.{event_is, sequence_at}
use Rattle.hg_answering.proofs.ordering.ordered_event.Goals as goal

pub returns : goal.returns
returns g c =
    let G = node_rows c.args.node.now in
    event_is G c.args.placed c.args.effect c.row-row.result.now _ c.in_ok-payload.payload c.requires.place c.row-row.ensures
    (sequence_at G c.args.sequences.now c.args.placed.place c.requires.sequences c.requires.place) (c.in_ok-payload.ensures ∙ c.as_slice.ensures)
