-- The certificate of a node's order, after the play of a script
use Rattle.std.specs.Prelude.{ℕ, ◌≡◌, List, Ok}
use Rattle.hg_model.specs.Prefix.{Graph, graph_of}
use Rattle.hg_life.specs.Members.{MemberList, stakes_of}
use Rattle.hg_script.specs.declared.line.Line.{Line}
use Rattle.hg_world.specs.World.{rows_at}
use Rattle.hg_play.specs.Play.{IsSafePlay, played_world}
use Rattle.hg_proof.specs.Least.{IsLeast, first_certificate}
use Rattle.hg_certify.specs.Showing.{ShowsTo, judged_by}

-- the graph of the rows of this member's node in the world with which the play of these lines ends
abbrev pub graph_played : MemberList → List Line → ℕ → Graph
graph_played members lines own = graph_of (stakes_of members) members.coin (rows_at (played_world members lines) own)

-- the bytes show the members the whole order of that graph, with the fewest first rows that have it; a check by the same
-- members says so; and the run of the play is safe
pub record IsProofOf (members : MemberList) (lines : List Line) (own : ℕ) (bytes : List ℕ) : Type 0 where
  pub len : ℕ
  pub least : IsLeast (graph_played members lines own) len
  pub shows : ShowsTo members bytes (first_certificate (graph_played members lines own) len)
  pub accepted : judged_by members bytes ≡ Ok (first_certificate (graph_played members lines own) len)
  pub safe : IsSafePlay members lines
