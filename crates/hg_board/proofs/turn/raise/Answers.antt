use Rattle.std.proofs.Common.{◌<◌, ◌+◌, ◌^◌, [], ◌∷◌, length, length-append, ap, subst, arith}
use mathlib.Core.Option.{none}
use Rattle.atomic_table.specs.Table.{step}
use Rattle.hg_life.specs.NodeView.{IsNode}
use Rattle.hg_board.proofs.MoveLaws.{raises}
use Rattle.hg_board.proofs.TurnLaws.{raised_one}
use Rattle.hg_board.proofs.turn.raise.Goals as goal

pub fetch_add-requires : goal.fetch_add-requires
fetch_add-requires g c =
    let m = c.args.raw.now.me in
    let e = g.N.Naming.change in
    let grown = ap (λ v. v.history) c.requires.node in
    let short : length m.0.seen + 1 < 2 ^ 64 = omega (arith, c.changes.ensures, ap length grown, length-append m.0.seen (e ∷ [])) in
    let lawful = subst (λ v. IsNode g.V.Verifier.accepts v) c.requires.node c.is_node.ensures in (
      c.requires.table,
      omega (arith, c.requires.size.words),
      raises g.V.Verifier.accepts c.args.board.now.key.value _ _ m.0 m.1 e (ap (λ x. x.0.hold) c.requires.inside.inside) c.requires.inside.alive short lawful,
    )

pub returns-clause-seat : goal.returns-clause-seat
returns-clause-seat g c =
    raised_one c.args.raw.now.me c.fetch_add.new.seat.me g.N.Naming.change (step 1 1 1 0 none) c.fetch_add.result c.args.node.now.history c.requires.inside (ap (λ v. v.history) c.requires.node) c.fetch_add.ensures.2
