-- A summary: of each node what the first line of its block tells, a digest of its order, and the sum of its balances
use Rattle.std.specs.Prelude.{ℕ, List, [], ◌∷◌, ◌++◌, length}
use Rattle.std.specs.List.{sum}
use Rattle.sha2.specs.Sha512.{sha384}
use Rattle.hg_outcome.specs.declared.outcome.OrderLine.{OrderLine}
use Rattle.hg_outcome.specs.declared.outcome.Block.{Block}
use Rattle.hg_outcome.specs.declared.outcome.Head.{Head}
use Rattle.hg_outcome.specs.declared.outcome.NodeSummary.{NodeSummary}
use Rattle.hg_outcome.specs.declared.outcome.Summary.{Summary}
use Rattle.hg_outcome.specs.declared.outcome.Printed.{Printed}
use Rattle.hg_outcome.specs.declared.outcome.Printed.TheVariants as printed
use Rattle.hg_outcome.specs.declared.outcome.Outcome.{Outcome}

-- the names of the rows of an order, one after the other
abbrev pub names_together : List OrderLine → List ℕ
names_together [] = []
names_together (line ∷ lines) = line.name ++ names_together lines

-- and their digest
abbrev pub order_digest : List OrderLine → List ℕ
order_digest lines = sha384 (names_together lines)

-- what is told of the node with this block
abbrev pub node_summary : Block → NodeSummary
node_summary b = record {
  member = b.member;
  events = b.events;
  forkers = b.forkers;
  greatest = b.greatest;
  closed = b.closed;
  ordered = length b.order;
  digest = order_digest b.order;
  total = sum b.balances;
}

-- .. of it what the first line of the block tells
abbrev pub head_told : NodeSummary → Head
head_told n = record {
  member = n.member;
  events = n.events;
  forkers = n.forkers;
  greatest = n.greatest;
  closed = n.closed;
  ordered = n.ordered;
}

-- only blocks are told, and of these only those without names
abbrev pub pieces_told : List Printed → List NodeSummary
pieces_told [] = []
pieces_told (printed.Block b ∷ pieces) = node_summary b ∷ pieces_told pieces
pieces_told (_ ∷ pieces) = pieces_told pieces

-- the summary of all that a run prints
abbrev pub summary_of : Outcome → Summary
summary_of o = record { names = o.names; nodes = pieces_told o.printed }
