use Rattle.std.proofs.Common.{[], ◌∷◌, ◌++◌, subst, sym}
use Rattle.hg_crowd.specs.Workers.{AreStarted}
use Rattle.hg_crowd.proofs.CrowdLaws.{started_one}
use Rattle.hg_crowd.proofs.sharing.start_behind.Goals as goal

pub returns-in-Ok-clause-ok : goal.returns-in-Ok-clause-ok
returns-in-Ok-clause-ok g c = λ nodes so.
    let accepts = g.V.Verifier.accepts in
    let ps = c.args.shared.now.items in
    let ss = c.args.seats.now.items in
    let all = started_one accepts nodes ps ss c.args.node c.in-Ok.shared_node c.in-Ok.seat so c.in-Ok.ensures.ok in
    subst (λ l. AreStarted accepts (nodes ++ c.args.node ∷ []) l c.push_reserved-in-Ok.new.self.items) (sym c.push_reserved.ensures.items)
    (subst (λ l. AreStarted accepts (nodes ++ c.args.node ∷ []) (ps ++ c.in-Ok.shared_node ∷ []) l) (sym c.push_reserved-in-Ok.ensures.items) all)
