use Rattle.std.proofs.Common.{◌≡◌, [], ◌∷◌, Some, sym, ap, ◌∙◌, arith}
use mathlib.Core.Option.{none}
use Rattle.atomic_table.specs.Table.{step}
use Rattle.hg_board.specs.Table.{node_at}
use Rattle.hg_board.proofs.MoveLaws.{gives_at}
use Rattle.hg_board.proofs.TurnLaws.{put_in, went_out}
use Rattle.hg_board.proofs.turn.leave.Goals as goal

pub store-requires : goal.store-requires
store-requires g c =
    let start = c.args.board.now.key.value in
    let m = c.args.raw.now.me in
    let n = c.exchange.new.seat.me in
    let e = put_in g.V.Verifier.accepts start m n c.args.node c.requires.inside c.exchange.ensures.3 in
    let seen = ap (λ x. x.0.seen) e in
    let parts = ap (λ x. x.0.parts) e in
    let node : c.args.node ≡ node_at start n.0.seen = c.requires.node ∙ ap (λ h. node_at start h) (sym seen) in (
      c.exchange.ensures.0 ∙ c.requires.table,
      omega (arith, c.requires.size.words),
      gives_at g.V.Verifier.accepts start _ _ n (ap (λ x. x.0.hold) e) (omega (arith, parts, c.requires.inside.alive)) (ap (λ x. x.1) e ∙ ap (λ x. (0, Some x) ∷ []) node),
    )

pub returns-clause-seat : goal.returns-clause-seat
returns-clause-seat g c =
    let start = c.args.board.now.key.value in
    let m = c.args.raw.now.me in
    let e = put_in g.V.Verifier.accepts start m c.exchange.new.seat.me c.args.node c.requires.inside c.exchange.ensures.3 in
    went_out g.V.Verifier.accepts start m c.exchange.new.seat.me c.store.new.seat.me c.args.node (step 1 0 0 0 none) e c.store.ensures.2
