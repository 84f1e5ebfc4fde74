-- The words in which clauses speak of a graph and of a shape. Each is a definition of the files above, said of the record
-- in one word
use Rattle.std.specs.Prelude.{ℕ, Bool, ◌==◌, List, Option}
use Rattle.hg_model.specs.declared.row.Placed.{Placed}
use Rattle.hg_model.specs.declared.share.Found.{Found}
use Rattle.hg_model.specs.Seeing.{sees, strongly_sees}
use Rattle.hg_model.specs.Graph.{IsGraph, IsShaped}
use Rattle.hg_model.specs.Shape.{Shape, shape_of}
use Rattle.hg_model.specs.Rounds.{round_of, is_witness, last_round}
use Rattle.hg_model.specs.Standings.{Standing, standings_of}
use Rattle.hg_model.specs.Votes.{vote_of, decides, is_voter}
use Rattle.hg_model.specs.Fame.{Marks, fame_of, fame_marks, is_closed}
use Rattle.hg_model.specs.Order.{coin_at, round_received, can_receive, consensus_time, is_received_in, famous_places, ordered, ordered_in, last_closed}
use Rattle.hg_model.specs.Prefix.{Graph, links_of}
use Rattle.hg_model.specs.Shares.{Share, share_fame, Speaks}

-- Of a shape

-- x sees y, and x strongly sees y
abbrev pub sees_in : Shape → ℕ → ℕ → Bool
sees_in shape x y = sees shape.links x y

abbrev pub strongly_sees_in : Shape → ℕ → ℕ → Bool
strongly_sees_in shape x y = strongly_sees shape.members shape.links x y

-- the members are those of the rows, parents stand before their rows, and they are by whom they have to be
abbrev pub IsShapedIn : Shape → Type 0
IsShapedIn shape = IsShaped shape.members shape.links

-- each row's standing
abbrev pub standings_in : Shape → List Standing
standings_in shape = standings_of shape.members shape.links

-- Of a graph

-- its shape
abbrev pub shape_in : Graph → Shape
shape_in g = shape_of g.members (links_of g)

-- its rows make a graph
abbrev pub IsLawfulGraph : Graph → Type 0
IsLawfulGraph g = IsGraph g.members g.rows

-- the round of x, whether x is a witness, and the greatest round
abbrev pub round_in : Graph → ℕ → ℕ
round_in g x = round_of g.members (links_of g) x

abbrev pub is_witness_in : Graph → ℕ → Bool
is_witness_in g x = is_witness g.members (links_of g) x

abbrev pub last_round_in : Graph → ℕ
last_round_in g = last_round g.members (links_of g)

-- w is a voter of y
abbrev pub is_voter_in : Graph → ℕ → ℕ → Bool
is_voter_in g y w = is_voter g.members (links_of g) y w

-- the vote of y on x, and whether y decides the fame of x
abbrev pub vote_in : Graph → ℕ → ℕ → Bool
vote_in g x y = vote_of g.members g.coin (links_of g) (coin_at g.rows) x y

abbrev pub decides_in : Graph → ℕ → ℕ → Bool
decides_in g x y = decides g.members g.coin (links_of g) (coin_at g.rows) x y

-- the fame of x, and the fame of all rows as marks
abbrev pub fame_in : Graph → ℕ → Option Bool
fame_in g x = fame_of g.members g.coin (links_of g) (coin_at g.rows) x

abbrev pub fame_marks_in : Graph → Marks
fame_marks_in g = fame_marks g.members g.coin (links_of g) (coin_at g.rows)

-- the fame of x, if x is of the share and decided
abbrev pub share_fame_in : Graph → Share → ℕ → Option Bool
share_fame_in g share x = share_fame g.members g.coin g.rows (links_of g) share x

-- what a share found, with the number of rows in which it was found, speaks of the graph
abbrev pub SpeaksOf : Graph → Found → Type 0
SpeaksOf g found = Speaks g.members g.coin g.rows (links_of g) found.len found.share found.marks

-- Of a graph by marks

-- round r is closed, and the greatest closed round
abbrev pub is_closed_in : Graph → Marks → ℕ → Bool
is_closed_in g marks r = is_closed g.members (links_of g) marks r

abbrev pub last_closed_in : Graph → Marks → ℕ
last_closed_in g marks = last_closed g.members (links_of g) marks

-- the places of the unique famous witnesses of round r, in order
abbrev pub famous_of : Graph → Marks → ℕ → List ℕ
famous_of g marks r = famous_places g.members (links_of g) marks r

-- the round that receives x, whether round r can, and whether a round that passes the test does
abbrev pub round_received_in : Graph → Marks → ℕ → Option ℕ
round_received_in g marks x = round_received g.members (links_of g) marks x

abbrev pub can_receive_in : Graph → Marks → ℕ → ℕ → Bool
can_receive_in g marks x r = can_receive g.members (links_of g) marks x r

abbrev pub is_received_by : Graph → Marks → (ℕ → Bool) → ℕ → Bool
is_received_by g marks test x = is_received_in g.members (links_of g) marks test x

-- the consensus timestamp of x, where round r receives it
abbrev pub consensus_time_in : Graph → Marks → ℕ → ℕ → ℕ
consensus_time_in g marks r x = consensus_time g.members g.rows (links_of g) marks r x

-- the received rows in order
abbrev pub ordered_by : Graph → Marks → List Placed
ordered_by g marks = ordered g.members g.rows (links_of g) marks

-- the rows that just round r received, in order
abbrev pub received_order : Graph → Marks → ℕ → List Placed
received_order g marks r = ordered_in g.members g.rows (links_of g) marks (λ k. k == r)
