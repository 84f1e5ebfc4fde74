-- What is held once events were put: each row whose bytes they are, unless these were refused at their turn
use Rattle.std.specs.Prelude.{ℕ, ◌≡◌, ◌<◌, ◌⊎◌, true, List, [], ◌∷◌, Some, slice_get}
use Rattle.std.specs.List.{AllByRecursion}
use Rattle.hg_model.specs.declared.row.Row.{Row}
use Rattle.hg_model.specs.Held.{is_held}
use Rattle.hg_life.specs.declared.answers.Fault.{Fault}
use Rattle.hg_life.specs.declared.answers.PutAnswer.{PutAnswer}
use Rattle.hg_life.specs.declared.answers.PutAnswer.TheVariants.{Refused}
use Rattle.hg_life.specs.Signing.{Accepts}
use Rattle.hg_life.specs.Spelling.{Spells, spelling}
use Rattle.hg_life.specs.NodeView.{IsNode, node_rows}
use Rattle.hg_prefix.specs.Chains.{HaveEqualRows}
use Rattle.hg_node.specs.Beyond.{beyond_of, tips}
use Rattle.hg_gossip.specs.declared.gossip.Taken.{Taken}
use Rattle.hg_gossip.specs.Holding.{Rules, Seen, names_in, parcel_beyond}
use Rattle.hg_gossip.specs.Handing.{AreKnown}
use Rattle.hg_gossip.specs.Gossip.{Pulls, Takes, TakesAll, none_taken, with_answer}

-- the answer refuses the event
abbrev pub IsRefusal : PutAnswer → Type 0
IsRefusal answer = (fault : Fault) × (answer ≡ Refused fault)

-- these bytes are those of one of the events, which was refused at its turn
abbrev pub WereRefused : {K : Type 0} (rules : Rules K) (old : Seen K) (before : Taken) (events : List (List ℕ)) (new : Seen K) (after : Taken) → Takes rules old before events new after → List ℕ → Type 0
WereRefused rules old before [] new after takes bytes = ⊥
WereRefused rules old before (event ∷ events) new after takes bytes =
    ((event ≡ bytes) × IsRefusal takes.1) ⊎ WereRefused rules takes.0 (with_answer before takes.1) events new after takes.3 bytes

-- the row is held by its name, or its bytes were refused
abbrev pub IsHeldOrRefused : {K : Type 0} (rules : Rules K) (old : Seen K) (before : Taken) (events : List (List ℕ)) (new : Seen K) (after : Taken) → Takes rules old before events new after → Row → Type 0
IsHeldOrRefused rules old before events new after takes row =
    (is_held (node_rows new.node) row.name ≡ true) ⊎ WereRefused rules old before events new after takes (spelling row)

-- where the bytes of a row with the sizes and the name of an event are put, so it is
abbrev pub TakesHold : (K : Type 0) → Type 0
TakesHold K = (rules : Rules K) (old new : Seen K) (events : List (List ℕ)) (taken : Taken) (i : ℕ) (row : Row) → Spells (spelling row) row → slice_get events i ≡ Some (spelling row) →
    (takes : TakesAll rules old events new taken) → IsHeldOrRefused rules old none_taken events new taken takes row

-- what was refused is counted
abbrev pub RefusalsCount : (K : Type 0) → Type 0
RefusalsCount K = (rules : Rules K) (old new : Seen K) (events : List (List ℕ)) (taken : Taken) (bytes : List ℕ) →
    (takes : TakesAll rules old events new taken) → WereRefused rules old none_taken events new taken takes bytes → 0 < taken.refused

-- each of these rows is held or was refused, and where no event was refused all are held
pub record HoldsUnlessRefused {K : Type 0} (rules : Rules K) (old : Seen K) (events : List (List ℕ)) (new : Seen K) (taken : Taken) (takes : TakesAll rules old events new taken) (rows : List Row) : Type 0 where
  pub each : AllByRecursion (IsHeldOrRefused rules old none_taken events new taken takes) rows
  pub all : taken.refused ≡ 0 → AreKnown (node_rows new.node) rows

-- so are all rows of a peer that is a node, after a pull
abbrev pub PullsHold : (K L : Type 0) → Type 0
PullsHold K L = (rules : Rules K) (accepts : L → Accepts) (old new : Seen K) (peer : Seen L) (taken : Taken) → IsNode accepts peer.node →
    (pulls : Pulls rules old peer new taken) → HoldsUnlessRefused rules pulls.reached (parcel_beyond (names_in pulls.reached) peer).rows new taken pulls.takes (node_rows peer.node)

-- and after a take of what a peer has beyond rows that the taker holds, where both are nodes and names do not collide: what
-- was not sent is an ancestor of such a row, and a node has the ancestors of its rows
abbrev pub BeyondHolds : (K L : Type 0) → Type 0
BeyondHolds K L = (rules : Rules K) (accepts : L → Accepts) (old new : Seen K) (peer : Seen L) (names : List (List ℕ)) (taken : Taken) →
    IsNode rules.accepts old.node → IsNode accepts peer.node → HaveEqualRows (node_rows old.node) (node_rows peer.node) → AllByRecursion (λ (name : List ℕ). is_held (node_rows old.node) name ≡ true) names →
    (takes : TakesAll rules old (beyond_of names peer.node).rows new taken) → HoldsUnlessRefused rules old (beyond_of names peer.node).rows new taken takes (node_rows peer.node)

-- the names of tips are held
abbrev pub TipsAreHeld : Type 0
TipsAreHeld = (G : List Row) → AllByRecursion (λ (name : List ℕ). is_held G name ≡ true) (tips G)
