use Rattle.hg_storm.specs.Drawing.{IsDrawing}
use Rattle.hg_storm.specs.Turning.{GoesOn, Stands}
use Rattle.hg_storm.proofs.turning.take_turns.Given as goal

abbrev pub invariant-turns : goal.invariant-turns
invariant-turns g l = record {
  on : GoesOn l.fn.desk l.desk;
  stands : Stands l.plan l.place l.mailboxes l.shared l.t l.t l.desk;
  draws : IsDrawing l.plan l.desk.me l.t l.desk.draws;
}
