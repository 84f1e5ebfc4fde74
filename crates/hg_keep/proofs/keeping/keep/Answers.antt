use Rattle.std.specs.Prelude.{Ok, Err}
use Rattle.hg_life.specs.NodeView.{start_of}
use Rattle.hg_journal.specs.declared.errors.OpenError.{OpenError}
use Rattle.hg_journal.specs.declared.errors.OpenError.TheVariants as open_error
use Rattle.hg_keep.specs.Keeping.{IsOnTheWay}
use Rattle.hg_keep.specs.Stops.{StaysIfRefused}
use Rattle.hg_keep.specs.Tasks.{FileIsRefused}
use Rattle.hg_keep.proofs.StopLaws.{err_of, errs, no_error}
use Rattle.hg_keep.proofs.TaskLaws.{own_way, refused_open, spares_open, spares_work, syncs_open, syncs_work, task_kept}
use Rattle.hg_keep.proofs.keeping.keep.Goals as goal

pub returns-in_err-stored-clause-wrong : goal.returns-in_err-stored-clause-wrong
returns-in_err-stored-clause-wrong g c =
    let start = start_of c.args.members.now c.args.task.now.own c.args.keys in
    errs c.from_residual.result c.in_err-stored.field-0.0 (FileIsRefused g.V.Verifier.accepts start (g.D.Disk.file c.args.disk.now)) c.from_residual.ensures.1 c.in_err-stored.ensures.opens

pub returns-in_err-stored-clause-refused : goal.returns-in_err-stored-clause-refused
returns-in_err-stored-clause-refused g c =
    let old = g.D.Disk.file c.args.disk.now in
    let new = g.D.Disk.file c.open.new.disk in
    let e = c.in_err-stored.field-0.0 in
    errs c.from_residual.result e (λ (error : OpenError). StaysIfRefused error old new) c.from_residual.ensures.1 (refused_open e old new c.in_err-stored.ensures.refused)

pub returns-in_err-stored-clause-synced : goal.returns-in_err-stored-clause-synced
returns-in_err-stored-clause-synced g c =
    let accepts = g.V.Verifier.accepts in
    let events = c.args.task.now.events.now in
    let time = c.args.task.now.time in
    let start = start_of c.args.members.now c.args.task.now.own c.args.keys in
    let e = c.in_err-stored.field-0.0 in
    syncs_open accepts start (IsOnTheWay accepts events time) (own_way accepts start events time) (g.D.Disk.file c.args.disk.now) (g.D.Disk.file c.open.new.disk) (Err e) c.from_residual.result
    (err_of c.from_residual.result e open_error.Disk c.from_residual.ensures.1) c.in_err-stored.ensures.synced

pub returns-in_err-stored-clause-spared : goal.returns-in_err-stored-clause-spared
returns-in_err-stored-clause-spared g c =
    spares_open g.V.Verifier.accepts (start_of c.args.members.now c.args.task.now.own c.args.keys) (g.D.Disk.file c.args.disk.now) (g.D.Disk.file c.open.new.disk) c.open.ensures.untouched

pub returns-in-Ok-clause-spared : goal.returns-in-Ok-clause-spared
returns-in-Ok-clause-spared g c =
    spares_work g.V.Verifier.accepts (start_of c.args.members.now c.args.task.now.own c.args.keys) (g.D.Disk.file c.args.disk.now) (g.D.Disk.file c.work.new.disk) c.in_ok-stored.stored.node
    c.in_ok-stored.ensures.open c.in_ok-stored.ensures.opens

pub returns-clause-spared : goal.returns-clause-spared
returns-clause-spared g c =
    spares_work g.V.Verifier.accepts (start_of c.args.members.now c.args.task.now.own c.args.keys) (g.D.Disk.file c.args.disk.now) (g.D.Disk.file c.work.new.disk) c.in_ok-stored.stored.node
    c.in_ok-stored.ensures.open c.in_ok-stored.ensures.opens

pub returns-in-Ok-clause-kept : goal.returns-in-Ok-clause-kept
returns-in-Ok-clause-kept g c =
    task_kept g.V.Verifier.accepts (start_of c.args.members.now c.args.task.now.own c.args.keys) c.args.members.now c.args.task.now.events.now c.args.task.now.time (g.D.Disk.file c.args.disk.now)
    (g.D.Disk.file c.work.new.disk) c.in_ok-stored.stored c.work.new.stored c.in-Ok.kept c.in_ok-stored.ensures.open c.in_ok-stored.ensures.opens c.in_ok-stored.ensures.begins c.in-Ok.ensures.kept c.in-Ok.ensures.stored

pub returns-in-Ok-clause-synced : goal.returns-in-Ok-clause-synced
returns-in-Ok-clause-synced g c =
    let accepts = g.V.Verifier.accepts in
    let events = c.args.task.now.events.now in
    let time = c.args.task.now.time in
    let start = start_of c.args.members.now c.args.task.now.own c.args.keys in
    syncs_work accepts start (IsOnTheWay accepts events time) (own_way accepts start events time) (g.D.Disk.file c.args.disk.now) (g.D.Disk.file c.open.new.disk) (g.D.Disk.file c.work.new.disk)
    (Ok c.in_ok-stored.stored) c.in_ok-stored.stored.node (Ok c.in-Ok.kept) (no_error c.in_ok-stored.stored open_error.Disk) c.in_ok-stored.ensures.synced c.open.ensures.shown c.in_ok-stored.ensures.opens c.in_ok-stored.ensures.begins c.work.ensures.stops

pub returns-clause-synced : goal.returns-clause-synced
returns-clause-synced g c =
    let accepts = g.V.Verifier.accepts in
    let events = c.args.task.now.events.now in
    let time = c.args.task.now.time in
    let start = start_of c.args.members.now c.args.task.now.own c.args.keys in
    syncs_work accepts start (IsOnTheWay accepts events time) (own_way accepts start events time) (g.D.Disk.file c.args.disk.now) (g.D.Disk.file c.open.new.disk) (g.D.Disk.file c.work.new.disk)
    (Ok c.in_ok-stored.stored) c.in_ok-stored.stored.node (Err c.open_error_of.result) (no_error c.in_ok-stored.stored open_error.Disk) c.in_ok-stored.ensures.synced c.open.ensures.shown c.in_ok-stored.ensures.opens c.in_ok-stored.ensures.begins c.work.ensures.stops
