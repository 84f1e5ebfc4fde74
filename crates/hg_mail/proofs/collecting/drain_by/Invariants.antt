use Rattle.std.proofs.Common.{◌≡◌, ◌+◌, ◌≤◌, length}
use Rattle.crossbeam_queue.specs.Passes.{IsSamePass, view}
use Rattle.hg_mail.specs.Messages.{after_taking}
use Rattle.hg_mail.proofs.collecting.drain_by.Given as goal

abbrev pub invariant-loop : goal.invariant-loop
invariant-loop g l = record {
  pass : IsSamePass l.fn.pass l.pass;
  view : view l.pass ≡ after_taking (view l.fn.pass) l.left.items;
  out : l.out ≤ l.fn.out + length l.left.items;
}
