use Rattle.std.proofs.Common.{drop, length}
use Rattle.std.proofs.lemmas.Slice.Eq.{starts_is}
use Rattle.hg_check.proofs.OrderedLaws.{same_decides}
use Rattle.hg_check.proofs.ordered.is_prefix.Goals as goal

pub returns : goal.returns
returns c =
    let s = starts_is same_decides c.args.whole.now c.args.front.now c.starts_with.result c.starts_with.ensures.value in
    ((λ t. (drop (length c.args.front.now) c.args.whole.now, s.0 t)), λ p. s.1 p.0 p.1)
