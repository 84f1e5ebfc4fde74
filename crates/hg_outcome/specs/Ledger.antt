-- What a node's block shows: counts of its graph, the order by the graph's own fame, what came of the payload of each
-- event of the order, and the balances that they leave
use Rattle.std.specs.Prelude.{ℕ, List, length, map, zip}
use Rattle.hg_outcome.specs.declared.outcome.OrderLine.{OrderLine}
use Rattle.hg_outcome.specs.declared.outcome.Block.{Block}
use Rattle.hg_model.specs.declared.row.Row.{Row}
use Rattle.hg_model.specs.declared.row.Placed.{Placed}
use Rattle.hg_life.specs.declared.pay.Effect.{Effect}
use Rattle.hg_life.specs.Members.{MemberList, balances_of, stakes_of}
use Rattle.hg_model.specs.Links.{Link, links, creator}
use Rattle.hg_model.specs.Forks.{forkers}
use Rattle.hg_model.specs.Graph.{name_at}
use Rattle.hg_model.specs.Rounds.{last_round}
use Rattle.hg_model.specs.Fame.{Marks, fame_marks}
use Rattle.hg_model.specs.Order.{coin_at, last_closed, ordered, sequence_of}
use Rattle.hg_life.specs.Pay.{book_of}

-- a row of the order as it is printed
abbrev pub order_line : List Row → List Link → Placed → Effect → OrderLine
order_line G L p e = record {
  creator = creator L p.place;
  sequence = sequence_of L p.place;
  received = p.received;
  time = p.time;
  effect = e;
  name = name_at G p.place;
}

-- the rows of the order with what came of them
abbrev pub order_lines : List Row → List Link → List Placed → List Effect → List OrderLine
order_lines G L order effects = map (λ (x : Placed × Effect). order_line G L x.0 x.1) (zip order effects)

-- the block of the node of member x with the rows G and the published marks
unfoldable pub marked_block : MemberList → ℕ → List Row → Marks → Block
marked_block members x G marks =
    let n = stakes_of members in
    let L = links G in
    let order = ordered n G L marks in
    let book = book_of (balances_of members) G order in
    record {
      member = x;
      events = length G;
      forkers = forkers n L;
      greatest = last_round n L;
      closed = last_closed n L marks;
      order = order_lines G L order book.effects;
      balances = book.balances;
    }

-- the block of the node of member x with the rows G, by the graph's own fame
abbrev pub block_of : MemberList → ℕ → List Row → Block
block_of members x G = marked_block members x G (fame_marks (stakes_of members) members.coin (links G) (coin_at G))
