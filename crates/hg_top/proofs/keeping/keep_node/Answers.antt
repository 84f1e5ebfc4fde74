use Rattle.std.proofs.Common.{List, ℕ, refl, subst}
use Rattle.std.specs.Option.{ForSome}
use Rattle.hg_life.specs.NodeView.{start_of}
use Rattle.hg_life.specs.Signing.{accepts_by}
use Rattle.hg_keep.specs.Keeping.{IsOnTheWay}
use Rattle.hg_journal.specs.Opening.{IsWrong}
use Rattle.hg_keep.specs.Stops.{KeepsTask, SparesOthers, SyncsWayOrFails}
use Rattle.hg_top.specs.Course.{disk_course, sink_course}
use Rattle.hg_top.specs.Keeps.{work_on}
use Rattle.hg_top.specs.Writing.{status_of}
use Rattle.hg_top.proofs.KeepLaws.{stopped, stopped_synced, told, told_synced}
use Rattle.hg_top.proofs.keeping.keep_node.Goals as goal

pub returns-in-Ok-keep : goal.returns-in-Ok-keep
returns-in-Ok-keep g c =
    let k = work_on c.args.members.now c.args.task.now in
    let d = disk_course g.D.Disk c.args.disk.now c.keep.new.disk in
    let kept = c.in-Ok-keep.kept in
    let task = subst (λ (keys : List (List ℕ)). KeepsTask accepts_by k.members (start_of k.members k.own keys) k.events k.time d.before d.after kept)
    c.in-Ok.ensures.secrets c.in-Ok-keep.ensures.kept in
    let synced = subst (λ (keys : List (List ℕ)). SyncsWayOrFails accepts_by (start_of k.members k.own keys) (IsOnTheWay accepts_by k.events k.time) d.before d.after c.keep.result)
    c.in-Ok.ensures.secrets c.keep.ensures.synced in
    let spared = subst (λ (keys : List (List ℕ)). SparesOthers accepts_by (start_of k.members k.own keys) d.before d.after) c.in-Ok.ensures.secrets c.keep.ensures.spared in
    rw c.status_of.ensures (
      told g.K.Sink c.args.out.now c.write_kept.new.sink k d kept c.write_kept.result task c.write_kept.ensures,
      told_synced k d c.keep.result kept (status_of c.write_kept.result) c.in-Ok-keep.is synced,
      (spared, c.keep.ensures.shown, c.keep.ensures.counts),
    )

pub returns-in-Err-keep : goal.returns-in-Err-keep
returns-in-Err-keep g c =
    let k = work_on c.args.members.now c.args.task.now in
    let d = disk_course g.D.Disk c.args.disk.now c.keep.new.disk in
    let out = c.args.out.now in
    let error = c.in-Err-keep.error in
    let wrong = subst (λ (keys : List (List ℕ)). ForSome d.before.reads (λ bytes. IsWrong accepts_by (start_of k.members k.own keys) bytes error))
    c.in-Ok.ensures.secrets c.in-Err-keep.ensures.wrong in
    let synced = subst (λ (keys : List (List ℕ)). SyncsWayOrFails accepts_by (start_of k.members k.own keys) (IsOnTheWay accepts_by k.events k.time) d.before d.after c.keep.result)
    c.in-Ok.ensures.secrets c.keep.ensures.synced in
    let spared = subst (λ (keys : List (List ℕ)). SparesOthers accepts_by (start_of k.members k.own keys) d.before d.after) c.in-Ok.ensures.secrets c.keep.ensures.spared in
    rw c.open_status.ensures (
      stopped k d (sink_course g.K.Sink out out) c.keep.result error c.in-Err-keep.is refl c.keep.ensures.cause wrong c.in-Err-keep.ensures.refused,
      stopped_synced k d c.keep.result error c.in-Err-keep.is synced,
      (spared, c.keep.ensures.shown, c.keep.ensures.counts),
    )
