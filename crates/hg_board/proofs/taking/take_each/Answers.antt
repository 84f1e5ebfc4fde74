use Rattle.std.proofs.Common.{◌∙◌, arith, refl}
use Rattle.hg_board.proofs.TakingLaws.{adds_both, adds_none, inside_still, node_still, run_out, signed_at, start_still, taken_first, taken_more, taken_none}
use Rattle.hg_board.proofs.taking.take_each.Goals as goal

pub loop-event-init : goal.loop-event-init
loop-event-init g c = record {
  table = refl;
  adds = adds_none c.args.raw.now.me c.args.node.now c.requires.inside;
  taken = taken_none g.V.Verifier.accepts c.args.node.now c.args.events.now;
  few = omega arith;
}

pub take_one-requires-clause-inside : goal.take_one-requires-clause-inside
take_one-requires-clause-inside g c = inside_still c.args.raw.now.me c.loop-event.raw.me c.args.node.now c.loop-event.node c.requires.inside c.loop-event.invariant.adds

pub take_one-requires-clause-node : goal.take_one-requires-clause-node
take_one-requires-clause-node g c =
    node_still c.args.board.now.key.value c.args.raw.now.me c.loop-event.raw.me c.args.node.now c.loop-event.node c.requires.node c.loop-event.invariant.adds

pub take_one-requires-clause-signed : goal.take_one-requires-clause-signed
take_one-requires-clause-signed g c =
    signed_at g.V.Verifier.accepts c.args.node.now.start c.loop-event.node.start c.args.events.now c.loop-event.event-index c.event-item.result
    (start_still c.args.raw.now.me c.loop-event.raw.me c.args.node.now c.loop-event.node c.loop-event.invariant.adds) c.requires.signed (omega arith) c.event-item.is

pub returns-in_err-counts-clause-adds : goal.returns-in_err-counts-clause-adds
returns-in_err-counts-clause-adds g c =
    adds_both c.args.raw.now.me c.loop-event.raw.me c.take_one.new.raw.me c.args.node.now c.loop-event.node c.take_one.new.node c.loop-event.invariant.adds c.take_one.ensures.adds

pub returns-in_err-counts-clause-err : goal.returns-in_err-counts-clause-err
returns-in_err-counts-clause-err g c =
    run_out c.from_residual.result
    (taken_first g.V.Verifier.accepts c.args.node.now c.args.events.now c.loop-event.event-index (omega arith) c.event-item.result c.event-item.is c.loop-event.node c.take_one.new.node c.loop-event.counts
    c.loop-event.invariant.taken c.in_err-counts.ensures.err c.in_err-counts.ensures.free)

pub loop-event-preserved : goal.loop-event-preserved
loop-event-preserved g c = record {
  table = c.take_one.ensures.table ∙ c.loop-event.invariant.table;
  adds = adds_both c.args.raw.now.me c.loop-event.raw.me c.take_one.new.raw.me c.args.node.now c.loop-event.node c.take_one.new.node c.loop-event.invariant.adds c.take_one.ensures.adds;
  taken =
      taken_more g.V.Verifier.accepts c.args.node.now c.args.events.now c.loop-event.event-index (omega arith) c.event-item.result c.event-item.is c.loop-event.node c.take_one.new.node c.loop-event.counts c.in_ok-counts.counts
      c.loop-event.invariant.taken c.in_ok-counts.ensures.ok;
  few = omega (arith, c.loop-event.invariant.few, c.in_ok-counts.ensures.few);
}
