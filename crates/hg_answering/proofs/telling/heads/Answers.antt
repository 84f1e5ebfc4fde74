use Rattle.std.proofs.Common.{◌∙◌, ap, List, ℕ}
use Rattle.hg_service.specs.declared.answer.Answer.TheVariants as answer
use Rattle.hg_answering.proofs.TellLaws.{heads_noted}
use Rattle.hg_answering.proofs.telling.heads.Goals as goal

pub returns : goal.returns
returns g c =
    ap (λ (names : List (List ℕ)). answer.Heads names) (c.from_vec.ensures ∙ (c.in_ok-heads.ensures ∙ heads_noted c.args.members.now c.args.node.now c.args.notes.now c.requires))
