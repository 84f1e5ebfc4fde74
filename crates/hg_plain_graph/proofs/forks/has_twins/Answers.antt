use Rattle.std.proofs.Common.{◌∙◌, ◌==◌, ◌&&◌, ℕ, sym, length}
use Rattle.std.proofs.lemmas.Bool.{and_from}
use Rattle.hg_model.proofs.PlacesLaws.{some_below_from}
use Rattle.hg_model.specs.Graph.{creator_at}
use Rattle.hg_plain_graph.specs.Twins.{has_twin_before, has_twins}
use Rattle.hg_plain_graph.proofs.forks.has_twins.Goals as goal

pub returns-then-has_twin_before : goal.returns-then-has_twin_before
unfolding has_twins
returns-then-has_twin_before c =
    let G = c.args.rows.now in
    sym (some_below_from (length G) (λ (x : ℕ). creator_at G x == c.args.member && has_twin_before G x) c.loop-x.x c.loop-x-test.true
    (and_from (creator_at G c.loop-x.x == c.args.member) (has_twin_before G c.loop-x.x)
    (sym c.is_by.ensures ∙ c.if-is_by.true) (sym c.has_twin_before.ensures ∙ c.if-has_twin_before.true)))
