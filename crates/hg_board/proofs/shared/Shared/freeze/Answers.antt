use Rattle.std.proofs.Common.{◌≡◌, ◌∙◌, subst}
use Rattle.std.specs.Prelude.{IfOk}
use Rattle.hg_node.specs.ChronicleView.{graph_in}
use Rattle.hg_board.specs.Seats.{seat_view_of}
use Rattle.hg_board.proofs.CallLaws.{HasRead, reads_at}
use Rattle.hg_board.proofs.SeatLaws.{node_inside}
use Rattle.hg_board.proofs.shared.Shared.freeze.Given as given
use Rattle.hg_board.proofs.shared.Shared.freeze.Goals as goal

pub leave-requires-clause-node : goal.leave-requires-clause-node
leave-requires-clause-node g c =
    node_inside g.V.Verifier.accepts c.self.inside.table.shared.key.value c.seat.inside.raw.me c.enter-node.new.raw.me c.enter-node.result.0 c.enter-node.result.1 c.enter-node.ensures.seat

-- all that the call left
left : (g : given.Over) (c : goal.After-leave g) → HasRead g.V.Verifier.accepts c.args.self.now c.args.seat.now (seat_view_of c.leave.new.raw.table_id c.leave.new.raw.me.0) c.enter-node.result.0
left g c = reads_at g.V.Verifier.accepts c.self.view_is c.seat.view_is c.requires c.enter-node.ensures.seat (c.leave.ensures.table ∙ c.enter-node.ensures.table) c.leave.ensures.seat

pub returns-clause-stays : goal.returns-clause-stays
returns-clause-stays g c = (left g c).stays

pub returns-clause-waits : goal.returns-clause-waits
returns-clause-waits g c = (left g c).waits

pub returns-clause-graph : goal.returns-clause-graph
returns-clause-graph g c =
    subst (λ v. IfOk c.freeze-frozen.result (λ frozen. frozen.graph ≡ graph_in v)) (left g c).same c.freeze-frozen.ensures.graph
