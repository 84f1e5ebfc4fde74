use Rattle.hg_node.proofs.TableLaws.{carries_later, first_carries}
use Rattle.hg_node.proofs.laws.tables_last.Goals as goal

pub returns-clause-first : goal.returns-clause-first
returns-clause-first c = first_carries

pub returns-clause-lasts : goal.returns-clause-lasts
returns-clause-lasts c = carries_later
