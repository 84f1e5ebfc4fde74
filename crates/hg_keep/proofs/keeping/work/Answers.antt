use Rattle.std.proofs.Common.{rules, inl, ◌∙◌, sym, subst}
use Rattle.hg_keep.specs.Keeping.{IsOnTheWay, IsPutSome, SettlesOf}
use Rattle.hg_keep.proofs.UnderWayLaws.{came_made, came_settled, way_on, way_stops, way_wider}
use Rattle.hg_keep.proofs.WayLaws.{kept_is, made_still, stops_put, there_makes, there_puts}
use Rattle.hg_keep.proofs.keeping.work.Goals as goal

pub returns-in_err-counts-clause-stops : goal.returns-in_err-counts-clause-stops
returns-in_err-counts-clause-stops g c =
    stops_put g.V.Verifier.accepts c.args.task.now.events.now c.args.task.now.time c.args.stored.now.node (g.D.Disk.file c.args.disk.now) (g.D.Disk.file c.stage_events.new.disk) c.stage_events.ensures.stops

pub stage_at-requires-clause-there : goal.stage_at-requires-clause-there
stage_at-requires-clause-there g c =
    there_puts g.V.Verifier.accepts c.args.task.now.events.now c.args.task.now.time c.args.stored.now.node c.stage_events.new.stored.node c.in_ok-counts.counts c.requires.there c.in_ok-counts.ensures.puts

pub stage_all_marks-requires-clause-there : goal.stage_all_marks-requires-clause-there
stage_all_marks-requires-clause-there g c =
    let there = there_puts g.V.Verifier.accepts c.args.task.now.events.now c.args.task.now.time c.args.stored.now.node c.stage_events.new.stored.node c.in_ok-counts.counts c.requires.there c.in_ok-counts.ensures.puts in
    there_makes g.V.Verifier.accepts c.args.task.now.events.now c.args.task.now.time c.stage_events.new.stored.node c.stage_at.new.stored.node c.in_ok-made.made there c.in_ok-made.ensures.makes

pub returns-in_err-made-clause-stops : goal.returns-in_err-made-clause-stops
returns-in_err-made-clause-stops g c =
    let accepts = g.V.Verifier.accepts in
    let events = c.args.task.now.events.now in
    let time = c.args.task.now.time in
    let first = c.args.stored.now.node in
    let file = g.D.Disk.file in
    let a = file c.args.disk.now in
    let comes = IsOnTheWay accepts events time in
    let way_put = way_wider accepts (IsPutSome accepts events) comes first a (file c.stage_events.new.disk) c.stage_events.new.stored (λ v w some. inl some) c.in_ok-counts.ensures.way in
    let shown_put = c.stage_events.ensures.frame.shown in
    way_stops accepts comes first a (file c.stage_events.new.disk) (file c.stage_at.new.disk) c.stage_events.new.stored way_put shown_put c.stage_at.ensures.stops

pub returns-in_err-stage_all_marks-clause-stops : goal.returns-in_err-stage_all_marks-clause-stops
returns-in_err-stage_all_marks-clause-stops g c =
    let accepts = g.V.Verifier.accepts in
    let events = c.args.task.now.events.now in
    let time = c.args.task.now.time in
    let first = c.args.stored.now.node in
    let file = g.D.Disk.file in
    let a = file c.args.disk.now in
    let comes = IsOnTheWay accepts events time in
    let way_put = way_wider accepts (IsPutSome accepts events) comes first a (file c.stage_events.new.disk) c.stage_events.new.stored (λ v w some. inl some) c.in_ok-counts.ensures.way in
    let shown_put = c.stage_events.ensures.frame.shown in
    let made = came_made accepts events time first c.stage_events.new.stored.node c.stage_at.new.stored.node c.in_ok-counts.counts c.in_ok-made.made c.in_ok-counts.ensures.puts c.in_ok-made.ensures.makes in
    let way_made = way_on accepts comes first a (file c.stage_events.new.disk) (file c.stage_at.new.disk) c.stage_events.new.stored way_put shown_put c.stage_at.new.stored c.stage_at.ensures.stops c.in_ok-made.ensures.moves made in
    let shown_made = c.stage_at.ensures.frame.shown ∙ shown_put in
    way_stops accepts comes first a (file c.stage_at.new.disk) (file c.stage_all_marks.new.disk) c.stage_at.new.stored way_made shown_made c.stage_all_marks.ensures.stops

pub returns-in_err-commit-clause-stops : goal.returns-in_err-commit-clause-stops
returns-in_err-commit-clause-stops g c =
    let accepts = g.V.Verifier.accepts in
    let events = c.args.task.now.events.now in
    let time = c.args.task.now.time in
    let first = c.args.stored.now.node in
    let file = g.D.Disk.file in
    let a = file c.args.disk.now in
    let comes = IsOnTheWay accepts events time in
    let way_put = way_wider accepts (IsPutSome accepts events) comes first a (file c.stage_events.new.disk) c.stage_events.new.stored (λ v w some. inl some) c.in_ok-counts.ensures.way in
    let shown_put = c.stage_events.ensures.frame.shown in
    let made = came_made accepts events time first c.stage_events.new.stored.node c.stage_at.new.stored.node c.in_ok-counts.counts c.in_ok-made.made c.in_ok-counts.ensures.puts c.in_ok-made.ensures.makes in
    let way_made = way_on accepts comes first a (file c.stage_events.new.disk) (file c.stage_at.new.disk) c.stage_events.new.stored way_put shown_put c.stage_at.new.stored c.stage_at.ensures.stops c.in_ok-made.ensures.moves made in
    let shown_made = c.stage_at.ensures.frame.shown ∙ shown_put in
    let done = came_settled accepts events time first c.stage_events.new.stored.node c.stage_at.new.stored.node c.in_ok-counts.counts c.in_ok-made.made c.in_ok-counts.ensures.puts c.in_ok-made.ensures.makes
    c.stage_all_marks.new.stored.node c.in_ok-stage_all_marks.ensures.settles in
    let way_done = way_on accepts comes first a (file c.stage_at.new.disk) (file c.stage_all_marks.new.disk) c.stage_at.new.stored way_made shown_made c.stage_all_marks.new.stored c.stage_all_marks.ensures.stops
    c.in_ok-stage_all_marks.ensures.moves done in
    let shown_done = c.stage_all_marks.ensures.frame.shown ∙ shown_made in
    way_stops accepts comes first a (file c.stage_all_marks.new.disk) (file c.commit.new.disk) c.stage_all_marks.new.stored way_done shown_done c.commit.ensures.stops

pub returns-in_err-outcome-clause-stops : goal.returns-in_err-outcome-clause-stops
returns-in_err-outcome-clause-stops g c =
    let accepts = g.V.Verifier.accepts in
    let events = c.args.task.now.events.now in
    let time = c.args.task.now.time in
    let first = c.args.stored.now.node in
    let file = g.D.Disk.file in
    let a = file c.args.disk.now in
    let comes = IsOnTheWay accepts events time in
    let way_put = way_wider accepts (IsPutSome accepts events) comes first a (file c.stage_events.new.disk) c.stage_events.new.stored (λ v w some. inl some) c.in_ok-counts.ensures.way in
    let shown_put = c.stage_events.ensures.frame.shown in
    let made = came_made accepts events time first c.stage_events.new.stored.node c.stage_at.new.stored.node c.in_ok-counts.counts c.in_ok-made.made c.in_ok-counts.ensures.puts c.in_ok-made.ensures.makes in
    let way_made = way_on accepts comes first a (file c.stage_events.new.disk) (file c.stage_at.new.disk) c.stage_events.new.stored way_put shown_put c.stage_at.new.stored c.stage_at.ensures.stops c.in_ok-made.ensures.moves made in
    let shown_made = c.stage_at.ensures.frame.shown ∙ shown_put in
    let done = came_settled accepts events time first c.stage_events.new.stored.node c.stage_at.new.stored.node c.in_ok-counts.counts c.in_ok-made.made c.in_ok-counts.ensures.puts c.in_ok-made.ensures.makes
    c.stage_all_marks.new.stored.node c.in_ok-stage_all_marks.ensures.settles in
    let way_done = way_on accepts comes first a (file c.stage_at.new.disk) (file c.stage_all_marks.new.disk) c.stage_at.new.stored way_made shown_made c.stage_all_marks.new.stored c.stage_all_marks.ensures.stops
    c.in_ok-stage_all_marks.ensures.moves done in
    let shown_done = c.stage_all_marks.ensures.frame.shown ∙ shown_made in
    way_stops accepts comes first a (file c.stage_all_marks.new.disk) (file c.commit.new.disk) c.stage_all_marks.new.stored way_done shown_done c.commit.ensures.stops

pub returns-clause-stops : goal.returns-clause-stops
returns-clause-stops g c =
    let accepts = g.V.Verifier.accepts in
    let events = c.args.task.now.events.now in
    let time = c.args.task.now.time in
    let first = c.args.stored.now.node in
    let file = g.D.Disk.file in
    let a = file c.args.disk.now in
    let comes = IsOnTheWay accepts events time in
    let way_put = way_wider accepts (IsPutSome accepts events) comes first a (file c.stage_events.new.disk) c.stage_events.new.stored (λ v w some. inl some) c.in_ok-counts.ensures.way in
    let shown_put = c.stage_events.ensures.frame.shown in
    let made = came_made accepts events time first c.stage_events.new.stored.node c.stage_at.new.stored.node c.in_ok-counts.counts c.in_ok-made.made c.in_ok-counts.ensures.puts c.in_ok-made.ensures.makes in
    let way_made = way_on accepts comes first a (file c.stage_events.new.disk) (file c.stage_at.new.disk) c.stage_events.new.stored way_put shown_put c.stage_at.new.stored c.stage_at.ensures.stops c.in_ok-made.ensures.moves made in
    let shown_made = c.stage_at.ensures.frame.shown ∙ shown_put in
    let done = came_settled accepts events time first c.stage_events.new.stored.node c.stage_at.new.stored.node c.in_ok-counts.counts c.in_ok-made.made c.in_ok-counts.ensures.puts c.in_ok-made.ensures.makes
    c.stage_all_marks.new.stored.node c.in_ok-stage_all_marks.ensures.settles in
    let way_done = way_on accepts comes first a (file c.stage_at.new.disk) (file c.stage_all_marks.new.disk) c.stage_at.new.stored way_made shown_made c.stage_all_marks.new.stored c.stage_all_marks.ensures.stops
    c.in_ok-stage_all_marks.ensures.moves done in
    let shown_done = c.stage_all_marks.ensures.frame.shown ∙ shown_made in
    way_stops accepts comes first a (file c.stage_all_marks.new.disk) (file c.commit.new.disk) c.stage_all_marks.new.stored way_done shown_done c.commit.ensures.stops

pub block_of-requires : goal.block_of-requires
block_of-requires g c =
    let accepts = g.V.Verifier.accepts in
    let events = c.args.task.now.events.now in
    let time = c.args.task.now.time in
    let first = c.args.stored.now.node in
    let file = g.D.Disk.file in
    let a = file c.args.disk.now in
    let settled = subst (λ o. SettlesOf accepts c.stage_at.new.stored.node o) (sym c.in_ok-commit.ensures.ok) c.in_ok-stage_all_marks.ensures.settles in
    made_still accepts events time c.args.members.now first c.stage_events.new.stored.node c.stage_at.new.stored.node c.commit.new.self.node c.in_ok-counts.counts c.in_ok-made.made c.unwrap-2.result.now
    c.requires.there c.in_ok-counts.ensures.puts c.in_ok-made.ensures.makes settled (search rules) c.requires.made

pub returns-clause-kept : goal.returns-clause-kept
returns-clause-kept g c =
    let accepts = g.V.Verifier.accepts in
    let events = c.args.task.now.events.now in
    let time = c.args.task.now.time in
    let first = c.args.stored.now.node in
    let file = g.D.Disk.file in
    let a = file c.args.disk.now in
    let settled = subst (λ o. SettlesOf accepts c.stage_at.new.stored.node o) (sym c.in_ok-commit.ensures.ok) c.in_ok-stage_all_marks.ensures.settles in
    kept_is accepts events time c.args.members.now first c.stage_events.new.stored.node c.stage_at.new.stored.node c.commit.new.self.node c.unwrap.result.now c.unwrap-2.result.now _
    (search rules) (search rules) (search rules) c.in_ok-counts.ensures.puts c.in_ok-made.ensures.makes settled c.requires.made c.in_ok-outcome.ensures
