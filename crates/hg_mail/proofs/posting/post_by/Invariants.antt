use Rattle.std.proofs.Common.{◌≡◌, ◌≤◌}
use Rattle.crossbeam_queue.specs.Passes.{IsSamePass, ruled_capacity, view}
use Rattle.hg_mail.proofs.posting.post_by.Given as goal

-- nothing was put in so far, and no less was seen
abbrev pub invariant-tries : goal.invariant-tries
invariant-tries g l = record {
  letter : l.letter ≡ l.fn.message;
  room : l.room ≡ ruled_capacity l.queue;
  same_room : l.seat.me.0.room ≡ l.fn.seat.me.0.room;
  pass : IsSamePass l.fn.pass l.pass;
  view : view l.pass ≡ view l.fn.pass;
  table : l.seat.table_id ≡ l.fn.seat.table_id;
  slots : l.seat.me.1 ≡ l.fn.seat.me.1;
  parts : l.seat.me.0.parts ≡ l.fn.seat.me.0.parts;
  mine : l.seat.me.0.mine ≡ l.fn.seat.me.0.mine;
  full : l.seat.me.0.full ≡ l.fn.seat.me.0.full;
  collects : l.seat.me.0.collects ≡ l.fn.seat.me.0.collects;
  seen : l.fn.seat.me.0.seen ≤ l.seat.me.0.seen;
  dates : l.seat.me.0.dates ≡ l.fn.seat.me.0.dates;
  findings : l.seat.me.0.findings ≡ l.fn.seat.me.0.findings;
}
