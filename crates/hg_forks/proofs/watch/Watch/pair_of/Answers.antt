use Rattle.std.proofs.Common.{◌≡◌, ◌∙◌, ◌<◌, length, ap, sym, subst}
use Rattle.hg_model.specs.Shape.{ShapeWithRoom}
use Rattle.hg_forks.specs.Pairs.{IsForkPair}
use Rattle.hg_forks.specs.Lines.{fork_in, line_at}
use Rattle.hg_forks.proofs.WatchLaws.{fork_known}
use Rattle.hg_forks.proofs.watch.Watch.pair_of.Goals as goal

pub returns : goal.returns
returns c =
    let lines = c.self.inside.lines.items in
    let line : c.line_at.result ≡ line_at lines c.args.m = c.line_at.ensures ∙ ap (λ xs. line_at xs c.args.m) c.deref.ensures.value in
    let matches = fork_known _ _ _ _ _ c.self.invariant c.args.m (subst (λ (w : ShapeWithRoom). c.args.m < length w.shape.members) (sym c.self.view_is) c.requires) in
    subst (λ (w : ShapeWithRoom). IsForkPair w.shape.links c.args.m c.fork_in.result) c.self.view_is
    (subst (IsForkPair c.self.inside.rows.items c.args.m) (sym (c.fork_in.ensures ∙ ap fork_in line)) matches)
