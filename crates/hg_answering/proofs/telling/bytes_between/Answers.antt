use Rattle.std.proofs.Common.{◌∙◌, ◌++◌, ◌∷◌, [], ap, arith, List, ℕ}
use Rattle.hg_life.specs.NodeView.{node_rows}
use Rattle.hg_answering.proofs.WindowLaws.{bytes_next}
use Rattle.hg_answering.proofs.telling.bytes_between.Goals as goal

pub loop-x-preserved : goal.loop-x-preserved
loop-x-preserved g c =
    bytes_next c.args.start c.loop-x.x (node_rows c.args.node.now) c.bytes.result.now c.loop-x.events.items c.push.new.self.items c.loop-x.auto.x
    (omega (arith, c.requires.within, c.loop-x-test.true)) c.bytes.ensures c.loop-x.invariant
    (c.in_ok-push.ensures.items ∙ ap (λ (b : List ℕ). c.loop-x.events.items ++ b ∷ []) c.in_ok-copied.ensures)
