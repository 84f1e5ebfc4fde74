use Rattle.std.proofs.Common.{refl}
use Rattle.hg_members.specs.MemberFile.{members_of}
use Rattle.hg_life.specs.Members.{MemberList}
use Rattle.hg_report.specs.Heads.{heads_text}
use Rattle.hg_top.specs.declared.status.File.TheVariants as file
use Rattle.hg_command.specs.Asked.{storm_run}
use Rattle.hg_top.specs.Commands.{IsStormText, bad_members, heads_work}
use Rattle.hg_top.specs.Course.{no_disk}
use Rattle.hg_top.proofs.KeepLaws.{idle_none}
use Rattle.hg_top.proofs.WorkLaws.{takes_none, takes_on, wrote}
use Rattle.hg_top.proofs.storming.storm.Goals as goal

pub returns-in-Err-clause-ends : goal.returns-in-Err-clause-ends
returns-in-Err-clause-ends g c =
    let r = storm_run c.args.asked.now in
    takes_none g.F.Shelf g.K.Sink c.args.shelf.now c.members_from.new.shelf c.args.out.now no_disk file.Members bad_members members_of r.members
    (heads_work r) c.in-Err.status idle_none c.in-Err.ensures.err

pub returns-in-Ok-storm_outcome-clause-ends : goal.returns-in-Ok-storm_outcome-clause-ends
returns-in-Ok-storm_outcome-clause-ends g c =
    let K = g.K.Sink in
    let r = storm_run c.args.asked.now in
    let members : MemberList = c.in-Ok.members in
    let u = c.members_from.new.shelf in
    let out = c.args.out.now in
    let written = c.heads_of.new.sink in
    let o = c.in-Ok-storm_outcome.outcome in
    let text = heads_text o in
    let is : IsStormText r members text = record { outcome = o; came = c.in-Ok-storm_outcome.ensures; is = refl } in
    takes_on g.F.Shelf K c.args.shelf.now u u out written no_disk file.Members bad_members members_of r.members
    (heads_work r) members c.status_of.result c.in-Ok.ensures.ok c.members_from.ensures.starts
    (refl, rw c.status_of.ensures (wrote K out written (IsStormText r members) text c.heads_of.result is c.heads_of.ensures), idle_none)
