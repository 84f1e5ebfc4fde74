use Rattle.std.proofs.Common.{◌≡◌, ◌+◌, ◌≤◌, length, vec_capacity, vec_len}
use Rattle.crossbeam_queue.specs.Passes.{IsSamePass, ruled_capacity, view}
use Rattle.hg_mail.specs.Messages.{after_taking}
use Rattle.hg_mail.proofs.collecting.take_most.Given as goal

abbrev pub invariant-tries : goal.invariant-tries
invariant-tries g l = record {
  pass : IsSamePass l.fn.pass l.pass;
  view : view l.pass ≡ after_taking (view l.fn.pass) l.taken.items;
  count : vec_len l.taken ≡ length l.taken.items;
  most : length l.taken.items ≤ l.room;
  space : l.room ≤ vec_capacity l.taken;
  room : l.room ≡ ruled_capacity l.queue;
  out : l.out ≤ l.fn.out + length l.taken.items;
}
