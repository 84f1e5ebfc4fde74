use Rattle.std.proofs.Common.{◌∙◌, ◌++◌, ◌<◌, length, List, ℕ, sym, ap₂}
use Rattle.hg_play.proofs.SummaryLaws.{names_more, same_name}
use Rattle.hg_play.proofs.summaries.have_same_names.Goals as goal

pub loop-i-preserved : goal.loop-i-preserved
loop-i-preserved g c =
    let order = c.args.order.now in
    let others = c.args.others.now in
    let i = c.loop-i.i in
    let there : i < length others = rw (← c.if-order-others.false) c.loop-i-test.true in
    names_more _ order i _ c.row.result.now c.loop-i-test.true c.row.ensures
    ∙ (ap₂ (λ (a b : List ℕ). a ++ b) c.loop-i.invariant (same_name _ _ c.ne.result c.ne.ensures c.if-ne.false) ∙ sym (names_more _ others i _ c.row-in-loop-i.result.now there c.row-in-loop-i.ensures))
