use Rattle.std.proofs.Common.{◌∙◌, ap, subst}
use Rattle.std.specs.Prelude.{IfOk}
use Rattle.hg_graph.specs.RowsWithRoom.{rows_of}
use Rattle.hg_gossip.specs.Handing.{HeardView}
use Rattle.hg_board.specs.Copies.{AreLacked}
use Rattle.hg_play.specs.Heard.{IsRead}
use Rattle.hg_play.proofs.CallLaws.{read_moved}
use Rattle.hg_play.proofs.handing.still_refused.Goals as goal

pub returns : goal.returns
returns g c =
    subst (λ rows. IsRead c.args.k (λ v. IfOk c.still_lacked.result (λ events. AreLacked rows v events.items)) c.args.party.now c.still_lacked.new.self)
    (ap rows_of c.as_slice.ensures.value ∙ ap (λ (heard : HeardView). heard.refused) c.heard.view_is)
    (read_moved c.args.party.now c.still_lacked.new.self c.args.k c.requires.nodes c.requires.place _ c.still_lacked.ensures)
