-- The nodes between the first and the last of a service. What a stop leaves of a journal is that of one of these
use Rattle.std.specs.Prelude.{◌≡◌, ℕ, List, [], ◌∷◌}
use Rattle.hg_life.specs.Calls.{IsMaking}
use Rattle.hg_life.specs.NodeView.{NodeView}
use Rattle.hg_life.specs.Signing.{Accepts}
use Rattle.hg_life.specs.declared.answers.MakeAnswer.{MakeAnswer}
use Rattle.hg_node.specs.Puts.{after_put}
use Rattle.hg_node.specs.Restore.{after_restore}
use Rattle.hg_answering.specs.Answering.{settled}

-- one event was put, came back or was made, or the node published all that its graph decides
pub data IsStep {K : Type 0} (accepts : K → Accepts) (v w : NodeView K) : Type 0 where
  Puts : (bytes : List ℕ) → w ≡ after_put accepts v bytes → IsStep accepts v w
  Restores : (bytes : List ℕ) → w ≡ after_restore accepts v bytes → IsStep accepts v w
  Makes : (others : List (List ℕ)) → (time : ℕ) → (payload : List ℕ) → (made : MakeAnswer)
      → IsMaking accepts v others time payload made w → IsStep accepts v w
  Settles : w ≡ settled v → IsStep accepts v w

-- steps lead from v to w over these nodes, of which the last one comes first
abbrev pub LeadsOver : {K : Type 0} → (K → Accepts) → NodeView K → List (NodeView K) → NodeView K → Type 0
LeadsOver accepts v [] w = w ≡ v
LeadsOver accepts v (u ∷ before) w = LeadsOver accepts v before u × IsStep accepts u w

-- steps lead from v to w
abbrev pub IsServed : {K : Type 0} → (K → Accepts) → NodeView K → NodeView K → Type 0
IsServed {K} accepts v w = (over : List (NodeView K)) × LeadsOver accepts v over w
