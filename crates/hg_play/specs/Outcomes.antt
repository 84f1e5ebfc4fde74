-- What is printed of nodes as they are: the blocks by the marks that they have published
use Rattle.std.specs.Prelude.{ℕ, cond, List, [], ◌∷◌, ◌++◌, length}
use Rattle.hg_outcome.specs.declared.outcome.Printed.{Printed}
use Rattle.hg_outcome.specs.declared.outcome.Printed.TheVariants as printed
use Rattle.hg_outcome.specs.declared.outcome.Outcome.{Outcome}
use Rattle.hg_life.specs.Members.{MemberList, has_node, names_of}
use Rattle.hg_life.specs.NodeView.{NodeView}
use Rattle.hg_model.specs.Places.{list_below}
use Rattle.hg_world.specs.World.{WorldView, node_at}
use Rattle.hg_play.specs.Lines.{kept_block}

-- the block of one node alone
abbrev pub kept_outcome : {K : Type 0} → MemberList → NodeView K → Outcome
kept_outcome members v = record { names = names_of members; printed = printed.Block (kept_block members v.start.own v) ∷ [] }

-- the block of member m's node in a world, and others with it behind them, if the member has one
abbrev pub kept_at : MemberList → WorldView → ℕ → Printed
kept_at members w m = printed.Block (kept_block members m (node_at w m))

abbrev pub with_kept : MemberList → WorldView → List Printed → ℕ → List Printed
with_kept members w before m = before ++ cond (has_node members m) (kept_at members w m ∷ []) []

-- the blocks of all nodes of a world, in the order of the members
abbrev pub world_outcome : MemberList → WorldView → Outcome
world_outcome members w = record { names = names_of members; printed = list_below (kept_at members w) (length members.entries) (has_node members) }
