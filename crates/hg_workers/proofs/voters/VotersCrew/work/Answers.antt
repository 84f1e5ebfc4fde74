use Rattle.std.proofs.Common.{arith}
use Rattle.hg_board.specs.Table.{node_at}
use Rattle.hg_workers.proofs.StateLaws.{few_marks}
use Rattle.hg_workers.proofs.LoopLaws.{next_all, next_of, only_of, only_on, stays_on}
use Rattle.hg_workers.proofs.voters.VotersCrew.work.Goals as goal

pub returns-in_err-count-2-clause-marks : goal.returns-in_err-count-2-clause-marks
returns-in_err-count-2-clause-marks g c =
    only_on c.args.share c.args.seat.now c.loop-turn.seat c.take_turn-in-loop-turn.new.seat c.take_turn-in-loop-turn.ensures.stays.seen
    (only_of c.args.shared.now c.args.share c.args.seat.now c.loop-turn.seat c.loop-turn.count c.loop-turn.invariant.counted) c.take_turn-in-loop-turn.ensures.marks

pub overflow_add-count : goal.overflow_add-count
overflow_add-count g c =
    let i = c.loop-turn.invariant in
    let few = few_marks g.V.Verifier.accepts (node_at c.args.shared.now.start c.take_turn-in-loop-turn.new.seat.seen) c.take_turn-in-loop-turn.ensures.stays.node in
    omega (arith, few, i.small, c.in_ok-count-2.ensures.few)

pub loop-turn-preserved : goal.loop-turn-preserved
loop-turn-preserved g c =
    let i = c.loop-turn.invariant in
    let turn = c.in_ok-count-2.ensures in
    let p = c.args.shared.now in
    let a = c.args.seat.now in
    let b = c.loop-turn.seat in
    let d = c.take_turn-in-loop-turn.new.seat in
    let stays = c.take_turn-in-loop-turn.ensures.stays in
    record {
      stays = stays_on g.V.Verifier.accepts p a b d i.stays stays;
      counted = next_of g.V.Verifier.accepts p c.args.share a b d c.loop-turn.count c.in_ok-count-2.field-0 i.stays stays i.counted turn.counted;
      all = next_all g.V.Verifier.accepts p c.args.share a b d c.loop-turn.count c.in_ok-count-2.field-0 i.stays stays turn.all;
      small = omega (arith, i.small, turn.few);
    }
