use Rattle.std.proofs.Common.{refl, ap, subst}
use Rattle.hg_io.specs.Files.{Files}
use Rattle.hg_io.specs.ShelfState.{ShelfState}
use Rattle.hg_top.specs.Commands.{work_for}
use Rattle.hg_top.specs.Ends.{Ends}
use Rattle.check_cases.specs.Runs.{Outside, course_over}
use Rattle.check_cases.proofs.RunLaws.{front}
use Rattle.check_cases.proofs.playing.play.Goals as goal

pub returns-clause-told : goal.returns-clause-told
returns-clause-told g c =
    front c.in_ok-err.err.bytes c.hashgraph-status.new.err.bytes c.hashgraph-status.result
    c.in_ok-err.err.faults c.hashgraph-status.new.err.faults c.in_ok-err.ensures c.hashgraph-status.ensures.matches

pub returns-clause-ends : goal.returns-clause-ends
returns-clause-ends g c =
    let before : Outside = record { shelf = c.in_ok-shelf.shelf; out = c.in_ok-out.out; disk = c.in_ok-disk.disk } in
    let after : Outside = record { shelf = c.hashgraph-status.new.shelf; out = c.hashgraph-status.new.out; disk = c.hashgraph-status.new.disk } in
    record {
      before = before;
      after = after;
      fresh = c.in_ok-out.ensures;
      ends = subst (λ (files : Files). Ends (work_for c.args.words.now) (course_over files before after) c.hashgraph-status.result)
          (ap (λ (x : ShelfState). x.files) c.in_ok-shelf.ensures.made) c.hashgraph-status.ensures.ends;
      wrote = refl;
    }
