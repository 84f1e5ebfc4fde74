use Rattle.hg_graph.proofs.NextLaws.{adds_link}
use Rattle.hg_graph.proofs.laws.rows_add_links.Goals as goal

pub returns : goal.returns
returns c = adds_link
