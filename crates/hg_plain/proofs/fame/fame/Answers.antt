use Rattle.std.proofs.Common.{sym, ◌∙◌, ap}
use Rattle.hg_model.specs.Rounds.{is_witness}
use Rattle.hg_model.specs.Shape.{Shape}
use Rattle.hg_model.proofs.FameLaws.{fame_of_other}
use Rattle.hg_plain.specs.Elections.{decided_vote}
use Rattle.hg_plain.proofs.FameSteps.{fame_from_ballots}
use Rattle.hg_plain.proofs.fame.fame.Goals as goal

pub returns-then-not-is_witness : goal.returns-then-not-is_witness
returns-then-not-is_witness c =
    sym (fame_of_other _ _ _ _ _ (sym (c.is_witness.ensures ∙ ap (λ (s : Shape). is_witness s.members s.links c.args.x) c.tables-sight.ensures) ∙ c.if-not-is_witness.true))

pub returns : goal.returns
returns c =
    c.decided_vote.ensures
    ∙ (ap decided_vote (rw c.tables-sight.ensures at c.first_decision.ensures)
    ∙ fame_from_ballots c.args.p.now c.args.x c.deref.result.now c.requires.candidate
    (sym (c.is_witness.ensures ∙ ap (λ (s : Shape). is_witness s.members s.links c.args.x) c.tables-sight.ensures) ∙ c.if-not-is_witness.false)
    (rw (c.deref.ensures.value) c.in_ok-ballots.ensures))
