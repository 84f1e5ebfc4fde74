use Rattle.std.proofs.Common.{◌≡◌, ◌∙◌, ◌++◌, ℕ, List, ap, ap₂, drop, subst}
use Rattle.std.specs.Prelude.{IfOk}
use Rattle.hg_model.specs.declared.row.Row.{Row}
use Rattle.hg_model.specs.Held.{lacking}
use Rattle.hg_life.specs.NodeView.{node_rows}
use Rattle.hg_graph.specs.RowsWithRoom.{rows_of}
use Rattle.hg_gossip.specs.Handing.{HeardView}
use Rattle.hg_gossip.proofs.HandLaws.{lacks_heard}
use Rattle.hg_gossip.proofs.handing.lacked.Goals as goal

pub returns : goal.returns
returns g c =
    let G = node_rows c.args.taker.now in
    let H = node_rows c.args.peer.now in
    subst (λ (rows : List Row). IfOk c.joined.result (λ events. rows_of events.items ≡ rows))
    (ap₂ (λ (first rest : List Row). first ++ rest)
    (c.in_ok-refused.ensures ∙ ap (lacking G) (ap rows_of c.as_slice.ensures.value ∙ ap (λ (h : HeardView). h.refused) c.heard.view_is))
    (c.in_ok-behind.ensures ∙ ap (λ (n : ℕ). lacking G (drop n H)) (ap (λ (h : HeardView). h.len) c.heard.view_is))
    ∙ lacks_heard G H c.args.heard.now c.requires)
    c.joined.ensures
