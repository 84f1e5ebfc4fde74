-- A certificate of a node of the world in which a play ends
use Rattle.std.proofs.Common.{◌≡◌, ◌∙◌, List, ℕ, ap, refl, subst}
use Rattle.hg_model.specs.Prefix.{Graph, graph_of}
use Rattle.hg_life.specs.Members.{MemberList, stakes_of}
use Rattle.hg_life.specs.NodeView.{NodeView, Start, node_rows}
use Rattle.hg_life.specs.Signing.{Accepts, accepts_by, accepts_signature, secrets_of}
use Rattle.hg_node.specs.ChronicleView.{graph_in}
use Rattle.hg_proof.specs.Laws.{ShownIsAccepted}
use Rattle.hg_proof.specs.Least.{IsLeast, Proves, first_certificate}
use Rattle.hg_proof.specs.Shows.{Shows}
use Rattle.hg_script.specs.declared.line.Line.{Line}
use Rattle.hg_sign.proofs.Secrets.{accepts_alike}
use Rattle.hg_world.specs.World.{Secrets, node_at}
use Rattle.hg_play.specs.Play.{IsSafePlay, played_world}
use Rattle.hg_play.specs.Sites.{start_in}
use Rattle.hg_certify.specs.Proving.{IsProofOf, graph_played}
use Rattle.hg_certify.specs.Showing.{ShowsTo}

pub proof_of : ShownIsAccepted → (members : MemberList) (lines : List Line) (own : ℕ) (v : NodeView Secrets) (bytes : List ℕ) →
    v ≡ node_at (played_world members lines) own → v.start ≡ start_in members own → IsSafePlay members lines → Proves accepts_by v bytes →
    IsProofOf members lines own bytes
proof_of law members lines own v bytes is began safe proved =
    let len : ℕ = proved.len in
    let same : graph_in v ≡ graph_played members lines own =
    ap (λ (start : Start Secrets). graph_of start.members start.coin (node_rows v)) began
    ∙ ap (λ (w : NodeView Secrets). graph_of (stakes_of members) members.coin (node_rows w)) is in
    let by_start = subst (λ (start : Start Secrets). Shows (accepts_by start.keys) start.members start.coin bytes (first_certificate (graph_in v) len)) began proved.shows in
    let by_members = subst (λ (a : Accepts). Shows a (stakes_of members) members.coin bytes (first_certificate (graph_in v) len)) (accepts_alike (secrets_of members) members refl) by_start in
    let shows = subst (λ (g : Graph). ShowsTo members bytes (first_certificate g len)) same by_members in
    record {
      len = len;
      least = subst (λ (g : Graph). IsLeast g len) same proved.least;
      shows = shows;
      accepted = law (accepts_signature members) (stakes_of members) members.coin bytes (first_certificate (graph_played members lines own) len) shows;
      safe = safe;
    }
