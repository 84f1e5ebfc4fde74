use Rattle.hg_history.proofs.StateLaws.{even_after}
use Rattle.hg_history.proofs.SoundLaws.{sound, node_graph, moment}
use Rattle.hg_history.proofs.laws.rows_are_a_graph.Goals as goal

pub returns-clause-graph : goal.returns-clause-graph
returns-clause-graph c = node_graph

pub returns-clause-links : goal.returns-clause-links
returns-clause-links c = λ terms n period own h three is. (sound terms n period own h three is).linked

pub returns-clause-even : goal.returns-clause-even
returns-clause-even c = λ n period h. ((even_after n period h).links, (even_after n period h).marks)

pub returns-clause-moments : goal.returns-clause-moments
returns-clause-moments c = moment
