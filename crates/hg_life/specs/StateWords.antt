-- The words in which clauses speak of a node's state by the graph and the marks that it is made of
use Rattle.std.specs.Prelude.{ℕ}
use Rattle.hg_model.specs.Fame.{Marks}
use Rattle.hg_model.specs.Prefix.{Graph, links_of}
use Rattle.hg_model.specs.Shares.{Share}
use Rattle.hg_life.specs.History.{State, news, with_marks}

-- the state of a node with this graph and these marks, how many marks come new where it publishes what was found, and the
-- marks then
abbrev pub state_by : Graph → Marks → State
state_by g marks = record { rows = g.rows; links = links_of g; marks = marks }

abbrev pub news_by : Graph → Marks → ℕ → Share → ℕ
news_by g marks len share = news g.members g.coin (state_by g marks) len share

abbrev pub marks_by : Graph → Marks → ℕ → Share → Marks
marks_by g marks len share = (with_marks g.members g.coin (state_by g marks) len share).marks
