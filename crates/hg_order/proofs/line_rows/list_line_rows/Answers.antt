use Rattle.std.proofs.Common.{◌∙◌, ◌∷◌, [], sym, ap, arith, refl, length, List}
use Rattle.hg_model.specs.Shape.{Shape}
use Rattle.hg_model.specs.Links.{creator}
use Rattle.std.proofs.lemmas.List.{length-append}
use Rattle.hg_order.specs.declared.timer.LineRow.{LineRow}
use Rattle.hg_order.specs.Timers.{line_row_at, line_rows_below}
use Rattle.hg_order.proofs.EndLaws.{listed_none, listed_yes, listed_no}
use Rattle.hg_order.proofs.RowLaws.{time_known}
use Rattle.hg_order.proofs.line_rows.list_line_rows.Goals as goal
use Rattle.hg_order.proofs.line_rows.list_line_rows.Goals.{then-z-ends, else-z-ends}

pub loop-z-init : goal.loop-z-init
loop-z-init g c = record { listed = c.requires.none ∙ sym (listed_none (g.P.Prefix.graph c.args.p.now) c.args.ends.now c.args.low); few = omega (arith, ap (λ (hs : List LineRow). length hs) c.requires.none); room = refl }

pub push_reserved-requires : goal.push_reserved-requires
push_reserved-requires g c = omega (arith, c.loop-z.invariant.few, c.loop-z.auto, c.loop-z.invariant.room, c.requires.room)

pub loop-z-preserved : goal.loop-z-preserved
loop-z-preserved g c =
    let graph = g.P.Prefix.graph c.args.p.now in
    let by = c.creator.ensures.value ∙ ap (λ (s : Shape). creator s.links c.loop-z.z) c.is_of_graph.ensures.matches.shaped in
    elim c.if-z-ends.branch [
      | then-z-ends w ↦
          (let below = rw by at w.if-z-ends.true in
          let yes = listed_yes graph c.args.ends.now c.args.low c.loop-z.z c.loop-z.auto.z below in
          rw (w.line_rows-is, w.push_reserved.ensures.items, c.loop-z.invariant.listed, time_known graph.rows c.loop-z.z w.row.result.now w.row.ensures) (record { listed = sym yes; few = omega (arith, length-append (line_rows_below graph c.args.ends.now c.args.low c.loop-z.z) (line_row_at graph.rows c.loop-z.z ∷ []), rw c.loop-z.invariant.listed at c.loop-z.invariant.few); room = w.push_reserved.ensures.capacity ∙ c.loop-z.invariant.room }))
      | else-z-ends w ↦
          (let past = rw by at w.if-z-ends.false in
          let no = listed_no graph c.args.ends.now c.args.low c.loop-z.z past in
          rw w.line_rows-is (record { listed = c.loop-z.invariant.listed ∙ sym no; few = omega (arith, c.loop-z.invariant.few); room = c.loop-z.invariant.room }))
    ]
