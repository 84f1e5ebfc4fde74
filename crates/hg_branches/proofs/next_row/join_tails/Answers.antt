use Rattle.std.proofs.Common.{◌≤◌, ◌∙◌, ℕ, List, get_or, ap, sym, subst}
use Rattle.std.specs.List.{AllByRecursion}
use Rattle.hg_branches.specs.Tails.{tail_width}
use Rattle.hg_branches.proofs.JoinLaws.{no_tails}
use Rattle.hg_branches.proofs.next_row.join_tails.Goals as goal

pub returns-then-widest-eq0-clause-each : goal.returns-then-widest-eq0-clause-each
returns-then-widest-eq0-clause-each c = λ k.
    let rows = c.args.tails.now.rows in
    let on = c.args.on.now in
    let none : AllByRecursion (λ p. tail_width rows p ≤ 0) on = subst (λ n. AllByRecursion (λ p. tail_width rows p ≤ n) on) c.if-widest-eq0.true c.requires.tails in
    ap (λ (l : List ℕ). get_or l k 0) c.clear.ensures.items ∙ sym (no_tails rows on c.args.own k none)
