use Rattle.hg_prefix.proofs.SharedLaws.{same_famous}
use Rattle.hg_prefix.proofs.laws.famous_are_the_same.Goals as goal

pub returns : goal.returns
returns c = λ n period U G H f h u three g k r closed_G closed_H name unique. same_famous n period U u three G H f h g k r closed_G closed_H name unique
