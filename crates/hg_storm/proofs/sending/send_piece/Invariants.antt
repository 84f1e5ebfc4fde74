use Rattle.std.proofs.Common.{◌≡◌, ◌≤◌, length, take, drop}
use Rattle.hg_mail.specs.Mailboxes.{IsPortOf}
use Rattle.hg_storm.specs.Sending.{NoneBack, Sends}
use Rattle.hg_storm.proofs.sending.send_piece.Given as goal

abbrev pub invariant-rows : goal.invariant-rows
invariant-rows g l = record {
  of : IsPortOf l.mailbox l.port;
  within : l.sent ≤ length l.fn.rows.items;
  rest : l.bytes-iterator.rest.items ≡ drop l.sent l.fn.rows.items;
  sends : Sends l.from l.place (take l.sent l.fn.rows.items) l.fn.port l.port;
  back : NoneBack l.fn.port l.port;
}
