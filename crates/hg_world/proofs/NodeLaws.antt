-- A node among others, and what its calls make of it
use Rattle.std.proofs.Common.{◌≡◌, ℕ, ◌<◌, List, length, get_or, Some, slice_get, subst}
use Rattle.std.proofs.lemmas.Option.{slice_get-get_or}
use Rattle.hg_life.specs.declared.answers.MakeAnswer.{MakeAnswer}
use Rattle.hg_life.specs.Signing.{accepts_by, signature_by}
use Rattle.hg_life.specs.Calls.{IsMaking}
use Rattle.hg_life.specs.NodeView.{NodeView}
use Rattle.hg_node.proofs.OneLaws.{making_is_one}
use Rattle.hg_sign.proofs.Secrets.{accepted_is_signature}
use Rattle.hg_world.specs.World.{Secrets}
use Rattle.hg_world.specs.Steps.{making_at, node_made}
use Rattle.hg_world.specs.Parts.{no_node, nth_node}

-- a node that was read
pub node_here : (nodes : List (NodeView Secrets)) (m : ℕ) (d : NodeView Secrets) → m < length nodes → get_or nodes m d ≡ nth_node nodes m
node_here nodes m d inside =
    let a : slice_get nodes m ≡ Some (get_or nodes m d) = slice_get-get_or nodes m d inside in
    let b : slice_get nodes m ≡ Some (nth_node nodes m) = slice_get-get_or nodes m no_node inside in
    cc

-- an event is made under the one signature that is accepted
pub makes : (v u w : NodeView Secrets) (others : List (List ℕ)) (time : ℕ) (payload : List ℕ) (a : MakeAnswer) → u ≡ v → IsMaking accepts_by u others time payload a w →
    (a ≡ making_at v others time payload) × (w ≡ node_made v others time payload)
makes v u w others time payload a same is =
    making_is_one Secrets accepts_by (signature_by v.start.keys) v w others time payload a (accepted_is_signature v.start.keys)
    (subst (λ (x : NodeView Secrets). IsMaking accepts_by x others time payload a w) same is)
