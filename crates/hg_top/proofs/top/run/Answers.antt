use Rattle.hg_members.specs.MemberFile.{members_of}
use Rattle.hg_top.specs.declared.status.File.TheVariants as file
use Rattle.hg_top.specs.Commands.{bad_members, script_work}
use Rattle.hg_top.specs.Course.{no_disk}
use Rattle.hg_top.proofs.KeepLaws.{idle_none}
use Rattle.hg_top.proofs.WorkLaws.{takes_none, takes_on}
use Rattle.hg_top.proofs.top.run.Goals as goal

pub returns-in-Err-clause-ends : goal.returns-in-Err-clause-ends
returns-in-Err-clause-ends g c =
    takes_none g.F.Shelf g.K.Sink c.args.shelf.now c.members_from.new.shelf c.args.out.now no_disk file.Members bad_members members_of c.args.asked.now.members.now
    (script_work c.args.asked.now.script.now c.args.asked.now.workers) c.in-Err.status idle_none c.in-Err.ensures.err

pub returns-clause-ends : goal.returns-clause-ends
returns-clause-ends g c =
    takes_on g.F.Shelf g.K.Sink c.args.shelf.now c.members_from.new.shelf c.run_script.new.shelf c.args.out.now c.run_script.new.out
    no_disk file.Members bad_members members_of c.args.asked.now.members.now (script_work c.args.asked.now.script.now c.args.asked.now.workers) c.in-Ok.members c.run_script.result
    c.in-Ok.ensures.ok c.members_from.ensures.starts c.run_script.ensures.ends
