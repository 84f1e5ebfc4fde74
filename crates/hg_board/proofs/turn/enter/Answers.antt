use Rattle.std.proofs.Common.{Some, sym, ap, ◌∙◌, subst, arith}
use mathlib.Core.Option.{none}
use Rattle.atomic_table.specs.Table.{step}
use Rattle.hg_board.specs.Steps.{IsAtRest}
use Rattle.hg_board.specs.Table.{node_at}
use Rattle.hg_board.proofs.MoveLaws.{takes_at, loads}
use Rattle.hg_board.proofs.TurnLaws.{took, took_hold, took_parts, holds_one, entered, carries, moved_out, is_there, enters}
use Rattle.hg_board.proofs.turn.enter.Goals as goal

pub compare_exchange-requires : goal.compare_exchange-requires
compare_exchange-requires g c =
    let i = c.loop.invariant in
    let rests : IsAtRest c.loop.raw.me = subst IsAtRest (sym i.1) c.requires.rest in
    (i.0 ∙ c.requires.table, omega (arith, c.requires.size.words), takes_at g.V.Verifier.accepts c.args.board.now.key.value _ _ c.loop.raw.me rests)

pub load-count-requires : goal.load-count-requires
load-count-requires g c =
    let i = c.loop.invariant in
    let t = took g.V.Verifier.accepts c.args.board.now.key.value c.loop.raw.me c.compare_exchange.new.seat.me (step 1 0 0 1 none) c.compare_exchange.result (ap (λ m. m.0.start) i.1 ∙ c.requires.start) c.compare_exchange.ensures.2 c.if-compare_exchange-eq0.true in
    let rests : IsAtRest c.loop.raw.me = subst IsAtRest (sym i.1) c.requires.rest in (
      c.compare_exchange.ensures.0 ∙ i.0 ∙ c.requires.table,
      omega (arith, c.requires.size.words),
      loads g.V.Verifier.accepts c.args.board.now.key.value _ _ c.compare_exchange.new.seat.me.0 c.compare_exchange.new.seat.me.1 t.history
          (took_hold _ _ c.loop.raw.me _ t) (took_parts _ _ c.loop.raw.me _ t rests.alive),
    )

pub exchange-requires : goal.exchange-requires
exchange-requires g c =
    let i = c.loop.invariant in
    let start = c.args.board.now.key.value in
    let t = entered g.V.Verifier.accepts start c.args.raw.now.me c.loop.raw.me c.compare_exchange.new.seat.me c.load-count.new.seat.me (step 1 0 0 1 none) (step 1 1 0 0 none) c.compare_exchange.result c.load-count.result c.requires.rest c.requires.start i.1 c.compare_exchange.ensures.2 c.if-compare_exchange-eq0.true c.load-count.ensures.2 in
    (c.load-count.ensures.0 ∙ c.compare_exchange.ensures.0 ∙ i.0 ∙ c.requires.table, (Some (node_at start t.history), holds_one _ _ (carries g.V.Verifier.accepts start c.args.raw.now.me c.load-count.new.seat.me c.load-count.result t)))

pub unwrap-node-requires : goal.unwrap-node-requires
unwrap-node-requires g c =
    let i = c.loop.invariant in
    let start = c.args.board.now.key.value in
    let t = entered g.V.Verifier.accepts start c.args.raw.now.me c.loop.raw.me c.compare_exchange.new.seat.me c.load-count.new.seat.me (step 1 0 0 1 none) (step 1 1 0 0 none) c.compare_exchange.result c.load-count.result c.requires.rest c.requires.start i.1 c.compare_exchange.ensures.2 c.if-compare_exchange-eq0.true c.load-count.ensures.2 in
    let out = moved_out g.V.Verifier.accepts start c.args.raw.now.me c.load-count.new.seat.me c.exchange.new.seat.me c.load-count.result t c.exchange.result c.exchange.ensures.2 c.exchange.ensures.3 in
    is_there (node_at start t.history) _ out.0

pub returns-then-compare_exchange-eq0-clause-seat : goal.returns-then-compare_exchange-eq0-clause-seat
returns-then-compare_exchange-eq0-clause-seat g c =
    let i = c.loop.invariant in
    let start = c.args.board.now.key.value in
    let t = entered g.V.Verifier.accepts start c.args.raw.now.me c.loop.raw.me c.compare_exchange.new.seat.me c.load-count.new.seat.me (step 1 0 0 1 none) (step 1 1 0 0 none) c.compare_exchange.result c.load-count.result c.requires.rest c.requires.start i.1 c.compare_exchange.ensures.2 c.if-compare_exchange-eq0.true c.load-count.ensures.2 in
    enters g.V.Verifier.accepts start c.args.raw.now.me c.load-count.new.seat.me c.exchange.new.seat.me c.load-count.result t c.exchange.result c.unwrap-node.result c.requires.rest.alive c.exchange.ensures.2 c.exchange.ensures.3 c.unwrap-node.ensures
