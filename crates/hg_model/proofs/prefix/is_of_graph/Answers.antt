use Rattle.std.proofs.Common.{arith}
use Rattle.hg_model.proofs.LinkLaws.{length-links}
use Rattle.hg_model.proofs.PrefixLaws.{rows_known, standings_known, shaped_known}
use Rattle.hg_model.proofs.prefix.is_of_graph.Goals as goal

pub returns-clause-shaped : goal.returns-clause-shaped
returns-clause-shaped g c = shaped_known _ _ _ c.coin.ensures.matches c.rows.ensures.shaped

pub returns-clause-long : goal.returns-clause-long
returns-clause-long g c = length-links _

pub returns-clause-links : goal.returns-clause-links
returns-clause-links g c = rows_known _ _ _ c.coin.ensures.matches

pub returns-clause-standings : goal.returns-clause-standings
returns-clause-standings g c = standings_known _ _ _ c.coin.ensures.matches

pub returns-clause-short : goal.returns-clause-short
returns-clause-short g c = omega (arith, rows_known _ _ _ c.coin.ensures.matches, c.rows.ensures.value, c.rows.ensures.short)
