use Rattle.std.proofs.Common.{◌≡◌, [], ◌∷◌, ◌++◌, length, Some, sym, ap, ◌∙◌, subst}
use Rattle.hg_life.specs.NodeView.{IsNode}
use Rattle.hg_board.proofs.MoveLaws.{starts}
use Rattle.hg_board.proofs.shared.Shared.start.Goals as goal

pub new-requires : goal.new-requires
new-requires g c =
    let key : c.of-key.result.value ≡ c.args.node = c.of-key.ensures in
    starts g.V.Verifier.accepts c.of-key.result.value (0 ∷ c.changes-count.result ∷ []) c.push_reserved.new.self.items
    (subst (λ v. IsNode g.V.Verifier.accepts v) (sym key) c.is_node.ensures)
    (ap (λ k. 0 ∷ k ∷ []) (c.changes-count.ensures ∙ ap (λ v. length v.history) (sym key)))
    (c.push_reserved.ensures.items ∙ (ap (λ l. l ++ Some c.args.node ∷ []) c.in-Ok.ensures.items ∙ ap (λ v. Some v ∷ []) (sym key)))
