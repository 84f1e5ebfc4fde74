use Rattle.std.proofs.Common.{length, subst}
use Rattle.hg_blocks.specs.Joined.{IsSplit, WithRoom}
use Rattle.hg_blocks.proofs.JoinedLaws.{is_split}
use Rattle.hg_blocks.proofs.blocks.Blocks.sealed.Goals as goal

pub returns-clause-split : goal.returns-clause-split
returns-clause-split g c = subst (λ (v : WithRoom _). IsSplit (length v.items) v.sealed v.tail) c.self.view_is (is_split _ _ _ c.self.invariant)
