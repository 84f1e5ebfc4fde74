use Rattle.std.proofs.Common.{ap, ◌∙◌, subst}
use Rattle.hg_board.specs.Seats.{shared_node}
use Rattle.hg_board.specs.Calls.{IsWhole}
use Rattle.hg_board.proofs.JoinLaws.{whole}
use Rattle.hg_board.proofs.shared.Shared.finish.Goals as goal

pub returns : goal.returns
returns g c =
    let t = c.close_with-closed.ensures.values.2 in
    let top = c.self.inside.table.shared in
    let parts = ap (λ s. s.parts) c.seat.view_is ∙ c.requires.parts in
    let w = whole g.V.Verifier.accepts top.key.value c.seat.inside.raw.me c.enter-node.new.raw.me c.enter-node.result.0 c.enter-node.result.1 c.enter-node.ensures.seat parts top.table_id c.seat.inside.raw.table_id t.0 t.1.0 _ t.1.1 in
    subst (λ p. IsWhole p c.args.seat c.enter-node.result.0) c.self.view_is
    (subst (λ s. IsWhole (shared_node top.table_id top.key.value) s c.enter-node.result.0) c.seat.view_is w)
