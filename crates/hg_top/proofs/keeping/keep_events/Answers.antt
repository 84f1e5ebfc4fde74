use Rattle.std.proofs.Common.{List, ℕ, refl, subst}
use Rattle.hg_keep.specs.Events.{events_of}
use Rattle.hg_top.specs.declared.status.File.TheVariants as file
use Rattle.hg_command.specs.Asked.{keep_files}
use Rattle.hg_top.specs.Commands.{bad_events, node_work}
use Rattle.hg_top.specs.Course.{disk_course}
use Rattle.hg_top.specs.Keeps.{KeptOn}
use Rattle.hg_top.specs.Work.{KeepWork}
use Rattle.hg_top.proofs.KeepLaws.{idle_disk}
use Rattle.hg_top.proofs.WorkLaws.{takes_none, takes_on}
use Rattle.hg_top.proofs.keeping.keep_events.Goals as goal

pub returns-in-Err-clause-ends : goal.returns-in-Err-clause-ends
returns-in-Err-clause-ends g c =
    let W = g.D.Disk in
    let disk = c.args.disk.now in
    takes_none g.F.Shelf g.K.Sink c.args.shelf.now c.events_from.new.shelf c.args.out.now (disk_course W disk disk) file.Events bad_events events_of c.args.asked.now.events.now
    (node_work (keep_files c.args.asked.now) c.args.members.now c.args.own) c.in-Err.status (idle_disk W disk) c.in-Err.ensures.err

pub returns-clause-ends : goal.returns-clause-ends
returns-clause-ends g c =
    let k = keep_files c.args.asked.now in
    let d = disk_course g.D.Disk c.args.disk.now c.keep_node.new.disk in
    let members = c.args.members.now in
    let own = c.args.own in
    let work : List (List ℕ) → KeepWork = λ events. record { journal = k.disk; members = members; own = own; events = events; time = k.time } in
    let kept = subst (λ (events : List (List ℕ)). KeptOn g.K.Sink c.args.out.now c.keep_node.new.out d (work events) c.keep_node.result) c.as_slice.ensures c.keep_node.ensures in
    takes_on g.F.Shelf g.K.Sink c.args.shelf.now c.events_from.new.shelf c.events_from.new.shelf c.args.out.now c.keep_node.new.out
    d file.Events bad_events events_of k.events (node_work k members own) c.in-Ok.events c.keep_node.result
    c.in-Ok.ensures.ok c.events_from.ensures.starts (refl, kept.0, kept.1, kept.2)
