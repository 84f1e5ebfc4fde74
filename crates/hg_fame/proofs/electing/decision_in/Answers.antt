use Rattle.std.proofs.Common.{arith}
use Rattle.hg_fame.proofs.DecisionLaws.{witness_counted, decides_here, passes_on, passes_late, none_decides}
use Rattle.hg_fame.proofs.electing.decision_in.Goals as goal
use Rattle.hg_fame.proofs.electing.decision_in.Goals.{then-y-len+else-ballot, else-y-len}

pub ballot-ballot-requires : goal.ballot-ballot-requires
ballot-ballot-requires g c =
    let graph = g.P.Prefix.graph c.args.p.now in
    (graph, c.requires.made, witness_counted graph _ c.args.r _ _ (g.met.P.Prefix.has_rounds c.args.p.now) c.witnesses-y-items.ensures _ c.requires.counted c.requires.later c.loop-y.y-index c.loop-y-test.true)

pub returns-then-ballot : goal.returns-then-ballot
returns-then-ballot g c =
    let graph = g.P.Prefix.graph c.args.p.now in
    let matches = g.met.P.Prefix.has_rounds c.args.p.now in
    let listed = c.witnesses-y-items.ensures in
    let counted = witness_counted graph _ c.args.r _ _ matches listed _ c.requires.counted c.requires.later c.loop-y.y-index c.loop-y-test.true in
    decides_here graph c.args.len _ c.args.r _ _ matches listed c.loop-y.y-index c.ballot-ballot.result c.loop-y-test.true c.loop-y.invariant
    (c.ballot-ballot.ensures graph c.requires.made counted) c.if-y-len.true c.if-ballot.true

pub loop-y-preserved : goal.loop-y-preserved
loop-y-preserved g c =
    let graph = g.P.Prefix.graph c.args.p.now in
    let matches = g.met.P.Prefix.has_rounds c.args.p.now in
    let listed = c.witnesses-y-items.ensures in
    let counted = witness_counted graph _ c.args.r _ _ matches listed _ c.requires.counted c.requires.later c.loop-y.y-index c.loop-y-test.true in
    elim c.if-y-len.branch [
      | then-y-len+else-ballot w ↦
          passes_on graph c.args.len _ c.args.r _ _ matches listed c.loop-y.y-index w.ballot-ballot.result c.loop-y-test.true c.loop-y.invariant
          (w.ballot-ballot.ensures graph c.requires.made counted) w.if-ballot.false
      | else-y-len w ↦ passes_late graph c.args.len _ c.args.r _ _ matches listed c.loop-y.y-index c.loop-y-test.true c.loop-y.invariant (omega (arith, w.if-y-len.false))
    ]

pub returns : goal.returns
returns g c =
    none_decides (g.P.Prefix.graph c.args.p.now) c.args.len _ c.args.r _ _ (g.met.P.Prefix.has_rounds c.args.p.now) c.witnesses-y-items.ensures c.loop-y.y-index c.loop-y.invariant c.loop-y-test.false
