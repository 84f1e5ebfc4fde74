use Rattle.std.proofs.Common.{◌≡◌, ◌≤◌, ◌-◌}
use Rattle.hg_board.specs.Seats.{IsOf}
use Rattle.hg_crowd.specs.Crowd.{IsStill}
use Rattle.hg_storm.specs.Keeping.{KeepsSeat}
use Rattle.hg_storm.specs.Sending.{HasSent, IsDue, NoneBack, bytes_seen}
use Rattle.hg_storm.proofs.sending.send_rows.Given as goal

abbrev pub invariant-pieces : goal.invariant-pieces
invariant-pieces g l = record {
  of : IsOf l.shared l.seat;
  still : IsStill l.fn.seat l.seat;
  seat : KeepsSeat g.V.Verifier.accepts l.shared l.fn.seat l.seat;
  mine : l.seat.mine ≡ l.fn.seat.mine;
  due : IsDue l.shared l.fn.seat l.seat l.due;
  within : l.sent ≤ l.due;
  sent : HasSent l.mailbox l.from (bytes_seen l.shared l.seat) l.sent l.port;
  seen : l.fn.port.count.seen ≤ l.port.count.seen;
  back : NoneBack l.fn.port l.port;
  more : l.fn.port.count.mine ≤ l.port.count.mine;
}

abbrev pub decreases-pieces : goal.decreases-pieces
decreases-pieces g l = l.due - l.sent
