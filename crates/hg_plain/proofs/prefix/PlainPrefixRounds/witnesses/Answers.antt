use Rattle.std.proofs.Common.{◌∙◌, ap, get_or, List, ℕ, []}
use Rattle.hg_plain.proofs.PrefixLaws.{witnesses_known}
use Rattle.hg_plain.proofs.prefix.PlainPrefixRounds.witnesses.Goals as goal

pub returns : goal.returns
returns c =
    rw (← c.self.view_is)
    (c.witnesses_at.ensures
    ∙ (ap (λ (lists : List (List ℕ)). get_or lists c.args.r []) c.deref.ensures.value
    ∙ witnesses_known _ _ c.args.r c.self.inside.witnesses.items c.self.invariant.witnesses_of))
