use Rattle.std.proofs.Common.{◌≡◌, ◌∙◌, ℕ, Option, Some, subst, sym}
use Rattle.hg_members.specs.MemberFile.{members_of}
use Rattle.hg_life.specs.Members.{MemberList}
use Rattle.hg_top.specs.declared.status.File.TheVariants as file
use Rattle.hg_command.specs.Asked.{keep_files}
use Rattle.hg_top.specs.Commands.{bad_members, own_in, own_work}
use Rattle.hg_top.specs.Course.{course, disk_course}
use Rattle.hg_top.specs.Ends.{Ends}
use Rattle.hg_top.proofs.KeepLaws.{idle_disk}
use Rattle.hg_top.proofs.WorkLaws.{takes_none, takes_on}
use Rattle.hg_top.proofs.keeping.keep.Goals as goal

pub returns-in-Err-clause-ends : goal.returns-in-Err-clause-ends
returns-in-Err-clause-ends g c =
    let W = g.D.Disk in
    let disk = c.args.disk.now in
    let k = keep_files c.args.asked.now in
    takes_none g.F.Shelf g.K.Sink c.args.shelf.now c.members_from.new.shelf c.args.out.now (disk_course W disk disk) file.Members bad_members members_of k.members
    (λ (members : MemberList). own_work k members (own_in members k.own)) c.in-Err.status (idle_disk W disk) c.in-Err.ensures.err

pub returns-in-Some-clause-ends : goal.returns-in-Some-clause-ends
returns-in-Some-clause-ends g c =
    let F = g.F.Shelf in
    let K = g.K.Sink in
    let d = disk_course g.D.Disk c.args.disk.now c.keep_events.new.disk in
    let k = keep_files c.args.asked.now in
    let members : MemberList = c.in-Ok.members in
    let u = c.members_from.new.shelf in
    let t = c.keep_events.new.shelf in
    let own : Some c.in-Some.own ≡ own_in members k.own = sym c.in-Some.is ∙ c.own_in.ensures.value in
    let ends = subst (λ (o : Option ℕ). Ends (own_work k members o) (course F K u t c.args.out.now c.keep_events.new.out d) c.keep_events.result) own c.keep_events.ensures.ends in
    takes_on F K c.args.shelf.now u t c.args.out.now c.keep_events.new.out d file.Members bad_members members_of k.members
    (λ (list : MemberList). own_work k list (own_in list k.own)) members c.keep_events.result
    c.in-Ok.ensures.ok c.members_from.ensures.starts ends
