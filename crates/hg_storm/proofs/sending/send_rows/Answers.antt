use Rattle.std.proofs.Common.{◌+◌, length, refl, inr, ◌∙◌, arith}
use Rattle.hg_storm.proofs.SendLaws.{as_counted, counted_later, due_at, due_most, due_on, none_more, piece_most, piece_sent, piece_some, rows_longer, sent_later, some_back, still_on}
use Rattle.hg_storm.proofs.sending.send_rows.Goals as goal

pub pieces-init : goal.pieces-init
pieces-init g c =
    let p = c.args.shared.now in
    let s = c.args.seat.now in
    let t = c.rows_due-due.new.seat in
    let e = c.rows_due-due.ensures in
    let longer = rows_longer p s t e.still.seen in record {
      of = e.of;
      still = e.still;
      seat = e.seat;
      mine = e.mine;
      due = due_at p s t c.rows_due-due.result e.still.seen e.count;
      within = omega (arith, e.count, longer, c.requires.sent.within);
      sent = sent_later p s t c.args.mailbox.now c.args.from c.args.dispatch.sent c.args.port.now e.still.seen c.requires.sent;
      seen = omega arith;
      back = refl;
      more = omega arith;
    }

pub returns-then-more-count-clause-sent : goal.returns-then-more-count-clause-sent
returns-then-more-count-clause-sent g c =
    let e = c.send_piece-more.ensures in
    piece_sent c.args.shared.now c.pieces.seat c.piece_from.new.seat c.args.mailbox.now c.args.from c.pieces.sent _ c.send_piece-more.result c.in_ok-rows.rows.items c.pieces.port c.send_piece-more.new.port
    c.in_ok-rows.ensures.still.seen c.pieces.invariant.sent c.in_ok-rows.ensures.rows e.within e.of e.sends

pub returns-then-more-count-clause-counted : goal.returns-then-more-count-clause-counted
returns-then-more-count-clause-counted g c =
    let e = c.send_piece-more.ensures in
    as_counted c.args.mailbox.now c.args.from _ (c.pieces.sent + c.send_piece-more.result) c.send_piece-more.new.port
    (piece_sent c.args.shared.now c.pieces.seat c.piece_from.new.seat c.args.mailbox.now c.args.from c.pieces.sent _ c.send_piece-more.result c.in_ok-rows.rows.items c.pieces.port c.send_piece-more.new.port
    c.in_ok-rows.ensures.still.seen c.pieces.invariant.sent c.in_ok-rows.ensures.rows e.within e.of e.sends)

pub returns-in_err-rows-clause-counted : goal.returns-in_err-rows-clause-counted
returns-in_err-rows-clause-counted g c =
    counted_later c.args.shared.now c.pieces.seat c.piece_from.new.seat c.args.mailbox.now c.args.from c.pieces.sent c.pieces.port c.piece_from.ensures.still.seen c.pieces.invariant.sent

pub returns-clause-counted : goal.returns-clause-counted
returns-clause-counted g c = as_counted c.args.mailbox.now c.args.from _ c.pieces.sent c.pieces.port c.pieces.invariant.sent

pub returns-then-more-count-clause-due : goal.returns-then-more-count-clause-due
returns-then-more-count-clause-due g c =
    due_on c.args.shared.now c.args.seat.now c.pieces.seat c.piece_from.new.seat c.rows_due-due.result c.in_ok-rows.ensures.still.seen c.pieces.invariant.due

pub returns-then-more-count-clause-rest : goal.returns-then-more-count-clause-rest
returns-then-more-count-clause-rest g c = inr (
  refl,
  some_back c.args.mailbox.now c.args.port.now c.pieces.port c.send_piece-more.new.port (length c.in_ok-rows.rows.items) c.send_piece-more.result c.pieces.invariant.back c.send_piece-more.ensures.rest
      (omega (arith, c.len-count.ensures, c.if-more-count.true)),
)

pub pieces-smaller : goal.pieces-smaller
pieces-smaller g c =
    let due = due_most c.args.shared.now c.args.seat.now c.pieces.seat c.rows_due-due.result c.pieces.invariant.due in
    let longer = rows_longer c.args.shared.now c.pieces.seat c.piece_from.new.seat c.in_ok-rows.ensures.still.seen in
    let some = piece_some c.args.shared.now c.piece_from.new.seat c.in_ok-rows.rows.items c.pieces.sent c.min-most.result c.in_ok-rows.ensures.rows
    (omega (arith, c.min-most.ensures, c.pieces-test.true)) (omega (arith, due, longer, c.pieces-test.true)) in
    omega (arith, some, c.len-count.ensures, c.if-more-count.false, c.pieces-test.true)

pub pieces-preserved : goal.pieces-preserved
pieces-preserved g c =
    let i = c.pieces.invariant in
    let e = c.send_piece-more.ensures in
    let most = piece_most c.args.shared.now c.piece_from.new.seat c.in_ok-rows.rows.items c.pieces.sent c.min-most.result c.in_ok-rows.ensures.rows in record {
      of = c.in_ok-rows.ensures.of;
      still = still_on c.args.seat.now c.pieces.seat c.piece_from.new.seat i.still c.in_ok-rows.ensures.still;
      seat = λ is. c.in_ok-rows.ensures.seat (i.seat is);
      mine = c.in_ok-rows.ensures.mine ∙ i.mine;
      due = due_on c.args.shared.now c.args.seat.now c.pieces.seat c.piece_from.new.seat c.rows_due-due.result c.in_ok-rows.ensures.still.seen i.due;
      within = omega (arith, e.within, most, c.min-most.ensures, c.pieces-test.true);
      sent = piece_sent c.args.shared.now c.pieces.seat c.piece_from.new.seat c.args.mailbox.now c.args.from c.pieces.sent _ c.send_piece-more.result c.in_ok-rows.rows.items c.pieces.port c.send_piece-more.new.port
          c.in_ok-rows.ensures.still.seen i.sent c.in_ok-rows.ensures.rows e.within e.of e.sends;
      seen = omega (arith, i.seen, e.sends.seen);
      back = none_more c.args.mailbox.now c.args.port.now c.pieces.port c.send_piece-more.new.port (length c.in_ok-rows.rows.items) c.send_piece-more.result i.back e.rest (omega (arith, c.len-count.ensures, c.if-more-count.false));
      more = omega (arith, i.more, e.sends.mine);
    }
