use Rattle.std.proofs.Common.{◌+◌, ◌∙◌, Ok, refl, arith, sym, subst}
use Rattle.std.specs.Prelude.{IfOk}
use Rattle.hg_graph.specs.RowsWithRoom.{rows_of}
use Rattle.hg_gossip.specs.Handing.{HeardView, heard_of}
use Rattle.hg_board.specs.Copies.{AreLacked, IsParcelFrom}
use Rattle.hg_world.specs.Parts.{nth_node}
use Rattle.hg_play.specs.declared.handing.Handed.{Handed}
use Rattle.hg_play.specs.Heard.{nodes_seen}
use Rattle.hg_play.proofs.HeardLaws.{rows_length}
use Rattle.hg_play.proofs.ReadLaws.{handed_few, hands, is_handed}
use Rattle.hg_play.proofs.handing.lacked.Goals as goal

pub heard-heard-requires-clause-x : goal.heard-heard-requires-clause-x
heard-heard-requires-clause-x g c =
    omega (arith, c.requires.taker, c.requires.nodes.heard.long, rows_length c.args.party.now.places c.args.party.now.seats c.requires.nodes.nodes.seated.count)

pub heard-heard-requires-clause-y : goal.heard-heard-requires-clause-y
heard-heard-requires-clause-y g c =
    omega (arith, c.requires.peer, c.requires.nodes.heard.long, rows_length c.args.party.now.places c.args.party.now.seats c.requires.nodes.nodes.seated.count)

pub overflow_add-len : goal.overflow_add-len
overflow_add-len g c =
    let heard : HeardView = heard_of c.heard.inside.len (rows_of c.heard.inside.refused.items) in
    let parcel = subst (λ r. IfOk r (IsParcelFrom heard.len (nth_node (nodes_seen c.events_behind.new.party) c.args.y))) c.in_ok-parcel.was c.events_behind.ensures.found in
    let few = handed_few c.args.party.now c.still_refused.new.party c.events_behind.new.party c.args.known.now c.args.x c.args.y c.requires.nodes c.requires.taker c.requires.peer _ _
    c.still_refused.ensures c.events_behind.ensures heard (c.heard.view_is ∙ c.heard-heard.ensures) c.in_ok-parcel.parcel parcel in
    omega (arith, few, c.len.ensures)

pub returns : goal.returns
returns g c =
    let v0 = c.args.party.now in
    let v1 = c.still_refused.new.party in
    let v2 = c.events_behind.new.party in
    let heard : HeardView = heard_of c.heard.inside.len (rows_of c.heard.inside.refused.items) in
    let parcel = subst (λ r. IfOk r (IsParcelFrom heard.len (nth_node (nodes_seen v2) c.args.y))) c.in_ok-parcel.was c.events_behind.ensures.found in
    let refused = subst (λ r. IfOk r (λ events. AreLacked c.heard-heard.result.now.refused (nth_node (nodes_seen v1) c.args.x) events.items)) c.in_ok-refused.was c.still_refused.ensures.found in
    let all : Handed = record { events = c.in_ok-events.events; len = c.heard.inside.len + c.len.result; last = c.in_ok-parcel.parcel.last } in
    hands v0 v1 v2 c.args.known.now c.args.x c.args.y c.requires.nodes c.requires.taker c.requires.peer _ _ c.still_refused.ensures c.events_behind.ensures (Ok all)
    (is_handed v0 v1 v2 c.args.known.now c.args.x c.args.y c.requires.nodes c.requires.taker c.requires.peer _ _ c.still_refused.ensures c.events_behind.ensures heard (c.heard.view_is ∙ c.heard-heard.ensures)
    c.in_ok-parcel.parcel parcel c.in_ok-refused.refused.items all
    (subst (λ (h : HeardView). AreLacked h.refused (nth_node (nodes_seen v1) c.args.x) c.in_ok-refused.refused.items) (sym c.heard.view_is) refused)
    c.in_ok-events.ensures (omega (arith, c.len.ensures, c.in_ok-parcel.parcel.events.ok.0)) refl)
