use Rattle.std.proofs.Common.{refl, ◌∙◌, List, ℕ, replicate}
use Rattle.std.proofs.lemmas.List.{take_more, length-replicate}
use Rattle.hg_model.specs.Stakes.{member_count}
use Rattle.hg_order.specs.Swept.{ends_from}
use Rattle.hg_order.proofs.FromLaws.{no_lines_from}
use Rattle.hg_order.proofs.SweepLaws.{swept_none, last_none, reach_same}
use Rattle.hg_order.proofs.sweep.sweep_lanes.Goals as goal

pub loop-line_row-init : goal.loop-line_row-init
loop-line_row-init g c =
    let clear = c.requires.clear in
    let n = (g.S.Sight.shape c.args.sight.now).members in
    let reach = reach_same _ _ c.args.wanted.now.low _ c.link_rows.new.timers c.link_rows.ensures.long c.requires.reach in
    let zeros : List ℕ = replicate 128 0 in
    rw (clear.last, clear.above, no_lines_from c.args.wanted.now.low (member_count n) 128) (record {
      swept = swept_none _ c.args.wanted.now.least c.args.wanted.now.low c.args.wanted.now.need (ends_from c.args.wanted.now.low c.link_rows.new.next) c.link_rows.new.timers reach c.link_rows.ensures.linked c.link_rows.ensures.first c.requires.some (member_count n);
      last = last_none _ c.args.wanted.now.low (member_count n);
      members = length-replicate (member_count n) zeros;
      long = c.link_rows.ensures.long;
    })

pub loop-line_row-preserved : goal.loop-line_row-preserved
loop-line_row-preserved g c =
    let done = c.if-not-sweep_row.ensures in
    record {
      swept = rw (take_more c.args.line_rows.now c.loop-line_row.line_row-index (record { time = 0; place = 0 }) c.loop-line_row-test.true) (done.on refl _ c.loop-line_row.invariant.swept);
      last = done.last refl;
      members = done.members refl ∙ c.loop-line_row.invariant.members;
      long = done.long refl ∙ c.loop-line_row.invariant.long;
    }
