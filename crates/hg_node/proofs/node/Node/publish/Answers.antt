use Rattle.std.proofs.Common.{◌∙◌, ap, subst, sym}
use Rattle.hg_life.specs.NodeView.{NodeView, node_state}
use Rattle.hg_history.specs.News.{FindsNews}
use Rattle.hg_kept.specs.Published.{FindsNewsOf}
use Rattle.hg_node.specs.ChronicleView.{ChronicleView, chronicle_news, news_in, node_view}
use Rattle.hg_node.proofs.PublishLaws.{IsPublishing, answer_is, published, finds_in}
use Rattle.hg_node.proofs.node.Node.publish.Given as given
use Rattle.hg_node.proofs.node.Node.publish.Goals as goal

pub publish-requires : goal.publish-requires
publish-requires g c =
    subst (λ (r : ChronicleView). FindsNewsOf r.graph r.marks c.args.found.now) (sym c.deref_mut.ensures.value)
    (finds_in g.V.Verifier.accepts c.self.inside.keys c.self.inside.chronicle.value c.self.invariant c.args.found.now.len c.args.found.now.share c.args.found.now.marks
    (subst (λ (w : NodeView g.row.V.Denot). FindsNews w.start.members w.start.coin (node_state w) c.args.found.now.len c.args.found.now.share c.args.found.now.marks)
    (sym c.self.view_is) c.requires))

-- what the chronicle has become
publishes : (g : given.Over) (c : goal.After-self-1 g) → IsPublishing g.V.Verifier.accepts (node_view c.self.inside.keys c.self.inside.chronicle.value)
    (node_view c.self.inside.keys c.publish.new.self) c.publish.new.self c.args.found.now.len c.args.found.now.share
publishes g c =
    published g.V.Verifier.accepts c.self.inside.keys c.self.inside.chronicle.value c.self.invariant c.args.found.now.len c.args.found.now.share
    c.args.found.now.marks (subst (λ (w : NodeView g.row.V.Denot). FindsNews w.start.members w.start.coin (node_state w) c.args.found.now.len c.args.found.now.share c.args.found.now.marks)
    (sym c.self.view_is) c.requires) c.publish.new.self
    (c.publish.ensures.grown ∙ ap (λ (r : ChronicleView). chronicle_news r c.args.found.now.len c.args.found.now.share) c.deref_mut.ensures.value)

pub invariant_of-self : goal.invariant_of-self
invariant_of-self g c = (publishes g c).recorded

pub returns-clause-answer : goal.returns-clause-answer
returns-clause-answer g c =
    rw (← c.self.view_is)
    (c.publish.ensures.count
    ∙ (ap (λ (r : ChronicleView). news_in r c.args.found.now.len c.args.found.now.share) c.deref_mut.ensures.value
    ∙ answer_is g.V.Verifier.accepts c.self.inside.keys c.self.inside.chronicle.value c.self.invariant c.args.found.now.len c.args.found.now.share))

pub returns-clause-grown : goal.returns-clause-grown
returns-clause-grown g c = rw (← c.self.view_is) (publishes g c).grown
