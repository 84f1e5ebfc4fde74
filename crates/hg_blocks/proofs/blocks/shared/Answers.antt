use Rattle.hg_blocks.proofs.JoinedLaws.{same_items}
use Rattle.hg_blocks.proofs.blocks.shared.Goals as goal

pub returns-clause-items : goal.returns-clause-items
returns-clause-items g c = same_items _ _ c.in_ok-from_clones.ensures.items
