-- What becomes of a stored node while it gossips with a peer
use Rattle.std.specs.Prelude.{◌≡◌, ℕ, List, [], ◌∷◌, Option, Some}
use Rattle.std.specs.Option.{ForSome}
use Rattle.hg_io.specs.FileView.{FileView}
use Rattle.hg_io.specs.declared.sink.Sink as sink
use Rattle.hg_io.specs.declared.source.Source as source
use Rattle.hg_journal.specs.Stored.{StoredView}
use Rattle.hg_keep.specs.Keeping.{IsMadeSome, IsPutSome, IsSettledSome, SettlesOf}
use Rattle.hg_keep.specs.Stops.{StopsLeaveOf}
use Rattle.hg_life.specs.NodeView.{NodeView}
use Rattle.hg_life.specs.Signing.{Accepts}
use Rattle.relay.specs.Exchanges.{AreExchanges, Streams, streams_of}
use Rattle.relay.specs.declared.gossip.Outside.{Outside}
use Rattle.relay.specs.declared.request.Request.{Request}

-- a node after one step, or before: first ones of these bytes were put to it, it made the event that comes next, at this time
-- and without payload, or it published all that its graph decides
pub data IsStep {K : Type 0} (accepts : K → Accepts) (v w : NodeView K) : Type 0 where
  Puts : (events : List (List ℕ)) → IsPutSome accepts events v w → IsStep accepts v w
  Makes : (time : ℕ) → IsMadeSome accepts (Some time) v w → IsStep accepts v w
  Settles : IsSettledSome v w → IsStep accepts v w

-- such steps lead from v over these nodes, the last one first, to w
abbrev pub LeadsOver : {K : Type 0} → (K → Accepts) → NodeView K → List (NodeView K) → NodeView K → Type 0
LeadsOver accepts v [] w = w ≡ v
LeadsOver accepts v (u ∷ before) w = LeadsOver accepts v before u × IsStep accepts u w

-- a node that came of v by gossip
abbrev pub IsRelayed : {K : Type 0} → (K → Accepts) → NodeView K → NodeView K → Type 0
IsRelayed {K} accepts v w = (over : List (NodeView K)) × LeadsOver accepts v over w

-- so it is of the node that was there
abbrev pub RelaysOf : {K : Type 0} → (K → Accepts) → Option (NodeView K) → Option (NodeView K) → Type 0
RelaysOf {K} accepts old new = ForSome old (λ v. (w : NodeView K) × (new ≡ Some w) × IsRelayed accepts v w)

-- .. by all exchanges that are asked for, and that one has then published all that its graph decides
pub record RelaysAll {K : Type 0} (accepts : K → Accepts) (asked : Request) (before after : Streams) (v : NodeView K) (new : Option (NodeView K)) : Type 0 where
  pub last : NodeView K
  pub relayed : IsRelayed accepts v last
  pub exchanges : AreExchanges accepts asked asked.exchanges before after v last
  pub settles : SettlesOf accepts (Some last) new

-- from old to new, and still at new, a stop leaves the journal of a node that came by gossip of the one that was there
abbrev pub StopsRelayOf : {K : Type 0} → (K → Accepts) → Option (NodeView K) → FileView → FileView → Type 0
StopsRelayOf accepts node old new = StopsLeaveOf accepts (IsRelayed accepts) node old new

-- so it is of the node that was there, between what is outside before and after
abbrev pub RelaysAllOn : {K A B C : Type 0} → (K → Accepts) → source.Ghosts B → sink.Ghosts C
    → Request → Outside A B C → Outside A B C → StoredView K → StoredView K → Type 0
RelaysAllOn accepts S T asked out after stored kept =
    ForSome stored.node (λ v. RelaysAll accepts asked (streams_of S T out) (streams_of S T after) v kept.node)
