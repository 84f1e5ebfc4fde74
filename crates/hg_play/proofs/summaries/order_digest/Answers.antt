use Rattle.std.proofs.Common.{List, ℕ, subst, sym, take}
use Rattle.sha2.specs.Hashers.{Holds384}
use Rattle.hg_play.specs.Summaries.{names_in}
use Rattle.hg_play.proofs.SummaryLaws.{names_more}
use Rattle.hg_play.proofs.summaries.order_digest.Goals as goal

pub loop-placed-preserved : goal.loop-placed-preserved
loop-placed-preserved g c =
    let G = (g.P.Prefix.graph c.args.p.now).rows in
    let order = c.args.order.now in
    let i = c.loop-placed.placed-index in
    let grown = c.update.ensures (names_in G (take i order)) c.loop-placed.invariant in
    subst (λ (m : List ℕ). Holds384 c.update.new.self m) (sym (names_more G order i _ c.row.result.now c.loop-placed-test.true c.row.ensures)) (rw c.as_slice.ensures at grown)
