use Rattle.std.proofs.Common.{◌∙◌, ◌<◌, ap, arith, length, subst, sym}
use Rattle.hg_model.specs.Stakes.{Stakes, stake_of}
use Rattle.hg_model.specs.Shape.{Shape, ShapeWithRoom}
use Rattle.hg_model.specs.Prefix.{graph_of}
use Rattle.hg_model.specs.GraphWords.{standings_in}
use Rattle.hg_graph.specs.Held.{KeepsGraph}
use Rattle.hg_graph.proofs.HeldLaws.{comes}
use Rattle.hg_graph.proofs.graph.EventGraph.push.Goals as goal

pub extend-requires-clause-fits : goal.extend-requires-clause-fits
extend-requires-clause-fits c =
    let p = comes c.self.view_is c.self.invariant c.row.ensures.value c.deref.ensures c.args.parents.now c.requires.limit c.row.ensures.spelled c.requires.link c.requires.graph in
    p.fits

pub extend-requires-clause-short : goal.extend-requires-clause-short
extend-requires-clause-short c =
    let p = comes c.self.view_is c.self.invariant c.row.ensures.value c.deref.ensures c.args.parents.now c.requires.limit c.row.ensures.spelled c.requires.link c.requires.graph in
    p.short

pub add-requires-clause-fits : goal.add-requires-clause-fits
add-requires-clause-fits c =
    let p = comes c.self.view_is c.self.invariant c.row.ensures.value c.deref.ensures c.args.parents.now c.requires.limit c.row.ensures.spelled c.requires.link c.requires.graph in
    p.self_fits c.self_parent.result c.self_parent.ensures

pub place_round-round-requires-clause-parents : goal.place_round-round-requires-clause-parents
place_round-round-requires-clause-parents c =
    let p = comes c.self.view_is c.self.invariant c.row.ensures.value c.deref.ensures c.args.parents.now c.requires.limit c.row.ensures.spelled c.requires.link c.requires.graph in
    p.last c.extend.new.self.shape c.extend.ensures

pub push-requires-clause-new : goal.push-requires-clause-new
push-requires-clause-new c =
    let p = comes c.self.view_is c.self.invariant c.row.ensures.value c.deref.ensures c.args.parents.now c.requires.limit c.row.ensures.spelled c.requires.link c.requires.graph in
    p.fresh

pub place_round-round-requires-clause-weights : goal.place_round-round-requires-clause-weights
place_round-round-requires-clause-weights c =
    let p = comes c.self.view_is c.self.invariant c.row.ensures.value c.deref.ensures c.args.parents.now c.requires.limit c.row.ensures.spelled c.requires.link c.requires.graph in
    p.weighs c.extend.new.self.shape c.extend.ensures

pub add-requires-2-clause-light : goal.add-requires-2-clause-light
add-requires-2-clause-light c =
    let p = comes c.self.view_is c.self.invariant c.row.ensures.value c.deref.ensures c.args.parents.now c.requires.limit c.row.ensures.spelled c.requires.link c.requires.graph in
    p.light c.place_round-round.result.0 c.stake.result (omega arith)

pub stake-requires : goal.stake-requires
stake-requires c =
    let p = comes c.self.view_is c.self.invariant c.row.ensures.value c.deref.ensures c.args.parents.now c.requires.limit c.row.ensures.spelled c.requires.link c.requires.graph in
    subst (λ (s : Shape). c.row.result.now.creator < length s.members) (sym c.extend.ensures) p.fits.member

pub invariant_of-self : goal.invariant_of-self
invariant_of-self c =
    let p = comes c.self.view_is c.self.invariant c.row.ensures.value c.deref.ensures c.args.parents.now c.requires.limit c.row.ensures.spelled c.requires.link c.requires.graph in
    let after = ap (λ (s : ShapeWithRoom). s.shape) c.keep_witness.ensures ∙ c.extend.ensures in
    let keeps = p.keeps c.self_parent.result c.self_parent.ensures c.push.new.self.rows c.keep_witness.new.sight.shape c.add.new.self.shape c.add-2.new.self
    c.place_round-round.result.0 c.place_round-round.result.1 c.stake.result
    c.push.ensures after c.add.ensures c.add-2.ensures.standings (c.place_round-round.ensures.whole ∙ ap (λ (s : ShapeWithRoom). standings_in s.shape) (sym c.keep_witness.ensures))
    (c.stake.ensures ∙ ap (λ (s : ShapeWithRoom). stake_of s.shape.members c.row.result.now.creator) (sym c.keep_witness.ensures)) (omega arith) c.add-2.ensures.weights in
    subst (λ (n : Stakes). KeepsGraph (graph_of n c.self.inside.coin c.push.new.self.rows) c.keep_witness.new.sight.shape c.add.new.self.shape c.add-2.new.self)
    (ap (λ (s : Shape). s.members) (sym after)) keeps
