use Rattle.std.proofs.Common.{◌≡◌, ℕ, List, sym, subst}
use Rattle.std.proofs.lemmas.List.{nil_from_length}
use Rattle.hg_bits.specs.Masks.{mask_has}
use Rattle.hg_bits.proofs.MaskLaws.{mask_none}
use Rattle.hg_branches.specs.Columns.{forks_next}
use Rattle.hg_branches.proofs.forks.forked_next.Goals as goal

pub returns-in-None : goal.returns-in-None
returns-in-None c = λ m.
    subst (λ (on : List ℕ). mask_has 0 m ≡ forks_next c.args.makers.now c.args.counts.now.rows c.args.forked.now.items c.args.many on c.args.by m)
    (sym (nil_from_length c.args.on.now c.in-None.ensures.cases)) (mask_none m)
