use Rattle.std.proofs.Common.{Some, None, inl, refl}
use Rattle.hg_command.specs.Asked.{ask, check, check_files, keep, keep_files, made_run, make, node_files, prove, run, run_files, serve, storm, storm_run, take}
use Rattle.hg_top.specs.declared.exchanging.Exchange.TheVariants.{Ask, Serve, Take}
use Rattle.hg_top.specs.declared.status.Status.TheVariants.{Usage, Memory}
use Rattle.hg_top.specs.Commands.{asks, work_for, work_of}
use Rattle.hg_top.specs.Course.{course, disk_course}
use Rattle.hg_top.proofs.KeepLaws.{idle_disk}
use Rattle.hg_top.proofs.WorkLaws.{comes_short, completes, diskless_check, diskless_played, diskless_prove, diskless_run, diskless_storm, ends_at, ends_without, unwritten}
use Rattle.hg_top.proofs.top.hashgraph.Goals as goal
use Rattle.hg_top.proofs.top.hashgraph.Goals.{in-Ok-Some-Run, in-Ok-Some-Make, in-Ok-Some-Keep, in-Ok-Some-Prove, in-Ok-Some-Check, in-Ok-Some-Storm, in-Ok-Some-Ask, in-Ok-Some-Serve, in-Ok-Some-Take, in-Ok-None, in-Err}

pub returns-clause-ends : goal.returns-clause-ends
returns-clause-ends g c =
    let F = g.F.Shelf in
    let K = g.K.Sink in
    let W = g.D.Disk in
    let s = c.args.shelf.now in
    let out = c.args.out.now in
    let disk = c.args.disk.now in
    let idle = idle_disk W disk in
    let words = asks c.args.words.now in
    let last = c.match-read_words in
    elim last.branch [
      | in-Ok-Some-Run w ↦ (let q = w.in-Ok-Some-Run in let request = rw (q.field-0-is, q.field-0-0-is) at q.ensures.request in let r = w.run-status in
          ends_without F K W s r.new.shelf last.shelf out r.new.out last.out disk last.disk (Some (run (run_files q.asked))) words r.result last.status
          (diskless_run (run_files q.asked)) request w.shelf-is w.out-is w.disk-is w.status-is r.ensures.ends)
      | in-Ok-Some-Make w ↦ (let q = w.in-Ok-Some-Make in let request = rw (q.field-0-is, q.field-0-0-is) at q.ensures.request in let r = w.make-status in
          ends_at F K W s s last.shelf out r.new.out last.out disk disk last.disk (Some (make (made_run q.asked))) words r.result last.status
          request w.shelf-is w.out-is w.disk-is w.status-is (refl, r.ensures, idle))
      | in-Ok-Some-Keep w ↦ (let q = w.in-Ok-Some-Keep in let request = rw (q.field-0-is, q.field-0-0-is) at q.ensures.request in let r = w.keep-status in
          ends_at F K W s r.new.shelf last.shelf out r.new.out last.out disk r.new.disk last.disk (Some (keep (keep_files q.asked))) words r.result last.status
          request w.shelf-is w.out-is w.disk-is w.status-is r.ensures.ends)
      | in-Ok-Some-Prove w ↦ (let q = w.in-Ok-Some-Prove in let request = rw (q.field-0-is, q.field-0-0-is) at q.ensures.request in let r = w.prove-status in
          ends_without F K W s r.new.shelf last.shelf out r.new.out last.out disk last.disk (Some (prove (node_files q.asked))) words r.result last.status
          (diskless_prove (node_files q.asked)) request w.shelf-is w.out-is w.disk-is w.status-is r.ensures.ends)
      | in-Ok-Some-Check w ↦ (let q = w.in-Ok-Some-Check in let request = rw (q.field-0-is, q.field-0-0-is) at q.ensures.request in let r = w.check-status in
          ends_without F K W s r.new.shelf last.shelf out r.new.out last.out disk last.disk (Some (check (check_files q.asked))) words r.result last.status
          (diskless_check (check_files q.asked)) request w.shelf-is w.out-is w.disk-is w.status-is r.ensures.ends)
      | in-Ok-Some-Storm w ↦ (let q = w.in-Ok-Some-Storm in let request = rw (q.field-0-is, q.field-0-0-is) at q.ensures.request in let r = w.storm-status in
          ends_without F K W s r.new.shelf last.shelf out r.new.out last.out disk last.disk (Some (storm (storm_run q.asked))) words r.result last.status
          (diskless_storm (storm_run q.asked)) request w.shelf-is w.out-is w.disk-is w.status-is r.ensures.ends)
      | in-Ok-Some-Ask w ↦ (let q = w.in-Ok-Some-Ask in let request = rw (q.field-0-is, q.field-0-0-is) at q.ensures.request in let r = w.play_node-status in
          ends_without F K W s r.new.shelf last.shelf out r.new.out last.out disk last.disk (Some (ask (node_files q.asked))) words r.result last.status
          (diskless_played (node_files q.asked) Ask) request w.shelf-is w.out-is w.disk-is w.status-is r.ensures.ends)
      | in-Ok-Some-Serve w ↦ (let q = w.in-Ok-Some-Serve in let request = rw (q.field-0-is, q.field-0-0-is) at q.ensures.request in let r = w.play_node-status-in-Ok-Some-Serve in
          ends_without F K W s r.new.shelf last.shelf out r.new.out last.out disk last.disk (Some (serve (node_files q.asked) q.have.now)) words r.result last.status
          (diskless_played (node_files q.asked) (Serve q.have)) request w.shelf-is w.out-is w.disk-is w.status-is r.ensures.ends)
      | in-Ok-Some-Take w ↦ (let q = w.in-Ok-Some-Take in let request = rw (q.field-0-is, q.field-0-0-is) at q.ensures.request in let r = w.play_node-status-in-Ok-Some-Take in
          ends_without F K W s r.new.shelf last.shelf out r.new.out last.out disk last.disk (Some (take (node_files q.asked) q.rows.now)) words r.result last.status
          (diskless_played (node_files q.asked) (Take q.rows)) request w.shelf-is w.out-is w.disk-is w.status-is r.ensures.ends)
      | in-Ok-None w ↦ (let q = w.in-Ok-None in let request = rw q.field-0-is at q.ensures.request in
          ends_at F K W s s last.shelf out out last.out disk disk last.disk None words Usage last.status request w.shelf-is w.out-is w.disk-is w.status-is (inl refl, (refl, refl, idle)))
      | in-Err w ↦ (let short = comes_short (work_of words) (course F K s s out out (disk_course W disk disk)) (F.starts s) (refl, refl, idle) in
          ends_at F K W s s last.shelf out out last.out disk disk last.disk words words Memory last.status refl w.shelf-is w.out-is w.disk-is w.status-is short)
    ]

pub returns-clause-complete : goal.returns-clause-complete
returns-clause-complete g c =
    completes (work_for c.args.words.now)
    (course g.F.Shelf g.K.Sink c.args.shelf.now c.match-read_words.shelf c.args.out.now c.match-read_words.out (disk_course g.D.Disk c.args.disk.now c.match-read_words.disk))
    (g.F.Shelf.starts c.args.shelf.now) c.match-read_words.status (returns-clause-ends g c)

pub returns-clause-unwritten : goal.returns-clause-unwritten
returns-clause-unwritten g c =
    unwritten (work_for c.args.words.now)
    (course g.F.Shelf g.K.Sink c.args.shelf.now c.match-read_words.shelf c.args.out.now c.match-read_words.out (disk_course g.D.Disk c.args.disk.now c.match-read_words.disk))
    (g.F.Shelf.starts c.args.shelf.now) c.match-read_words.status (returns-clause-ends g c)
