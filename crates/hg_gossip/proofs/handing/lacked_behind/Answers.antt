use Rattle.std.proofs.Common.{◌≡◌, ◌∙◌, ℕ, List, ap, drop, subst}
use Rattle.std.specs.Prelude.{IfOk, reverse}
use Rattle.std.proofs.lemmas.List.{reverse-reverse}
use Rattle.hg_model.specs.declared.row.Row.{Row}
use Rattle.hg_model.specs.Held.{lacking}
use Rattle.hg_life.specs.NodeView.{node_rows}
use Rattle.hg_graph.specs.RowsWithRoom.{rows_of}
use Rattle.hg_gossip.specs.Handing.{rows_at}
use Rattle.hg_gossip.proofs.handing.lacked_behind.Goals as goal

pub returns : goal.returns
returns g c =
    let H = node_rows c.args.peer.now in
    subst (λ (rows : List Row). IfOk c.events_backwards.result (λ events. rows_of events.items ≡ rows))
    (ap (λ (places : List ℕ). reverse (rows_at H places)) c.as_slice.ensures.value
    ∙ (ap (λ (rows : List Row). reverse rows) c.in_ok-places.ensures.rows
    ∙ reverse-reverse (lacking (node_rows c.args.taker.now) (drop c.args.from H))))
    c.events_backwards.ensures
