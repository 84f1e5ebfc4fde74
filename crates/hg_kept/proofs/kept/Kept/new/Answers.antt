use Rattle.hg_kept.proofs.NothingLaws.{keeps_nothing}
use Rattle.hg_kept.proofs.kept.Kept.new.Goals as goal

pub returns-clause-keeps : goal.returns-clause-keeps
returns-clause-keeps c = λ n k some.
    rw (c.new.ensures.items, c.new-2.ensures, c.new-3.ensures.items) (keeps_nothing n k some)
