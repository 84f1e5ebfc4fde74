-- What so many exchanges with a peer make of a node, and what is said to the peer
use Rattle.std.specs.Prelude.{◌≡◌, ℕ, zero, suc, ◌+◌, ◌-◌, ◌^◌, min, Bool, true, false, List, [], Option, Some}
use Rattle.std.specs.Option.{ForSome}
use Rattle.hg_exchange.specs.Messages.{names_in}
use Rattle.hg_io.specs.Bytes.{Appends}
use Rattle.hg_io.specs.declared.sink.Sink as sink
use Rattle.hg_io.specs.declared.source.Source as source
use Rattle.hg_journal.specs.Stored.{StoredView}
use Rattle.hg_keep.specs.Keeping.{IsTurn, puts}
use Rattle.hg_life.specs.NodeView.{NodeView}
use Rattle.hg_life.specs.Signing.{Accepts}
use Rattle.hg_life.specs.declared.answers.MakeAnswer.{MakeAnswer}
use Rattle.hg_wire.specs.Exchange.{answer_of, asked_of, rows_in}
use Rattle.hg_wire.specs.Grammar.{message_bytes}
use Rattle.hg_wire.specs.Outcome.{Finished}
use Rattle.hg_wire.specs.Reading.{read}
use Rattle.hg_wire.specs.Receiving.{Receives}
use Rattle.hg_wire.specs.declared.message.Message.{Message}
use Rattle.hg_wire.specs.declared.message.Want.TheVariants as want
use Rattle.relay.specs.declared.gossip.Outside.{Outside}
use Rattle.relay.specs.declared.request.Request.{Request}

-- the streams from a peer and to it: what it has still to say, and what was said to it so far, where that is told
pub record Streams : Type 0 where
  pub left : Option (List ℕ)
  pub said : Option (List ℕ)

abbrev pub streams_of : {A B C : Type 0} → source.Ghosts B → sink.Ghosts C → Outside A B C → Streams
streams_of S T out = record { left = S.left out.source; said = T.written out.sink }

-- the node said its HAVE and no more, and this was heard as ROWS, with nothing before it
pub record IsAsked {K : Type 0} (v : NodeView K) (before after : Streams) (rows : Message) : Type 0 where
  pub asked : Appends before.said after.said (message_bytes (asked_of v))
  pub heard : Receives (read want.Rows) before.left after.left (Finished rows [])

-- this was heard as HAVE, with nothing before it, and just the ROWS of what the node has beyond its names were said
pub record IsServed {K : Type 0} (v : NodeView K) (before after : Streams) : Type 0 where
  pub have : Message
  pub heard : Receives (read want.Have) before.left after.left (Finished have [])
  pub answered : Appends before.said after.said (message_bytes (answer_of (names_in have) v))

-- the node asked, all rows that were heard were put to it, and it made the event that comes next, at this time and without
-- payload, or none comes next
pub record IsLearnt {K : Type 0} (accepts : K → Accepts) (time : ℕ) (before after : Streams) (v w : NodeView K) : Type 0 where
  pub rows : Message
  pub asks : IsAsked v before after rows
  pub answer : Option MakeAnswer
  pub turn : IsTurn accepts (puts accepts v (rows_in rows)).0 time answer w

-- one exchange: the node asks first, and then it serves; or it serves first
abbrev pub IsExchange : {K : Type 0} → (K → Accepts) → Bool → ℕ → Streams → Streams → NodeView K → NodeView K → Type 0
IsExchange accepts true time before after v w =
    (mid : Streams) × IsLearnt accepts time before mid v w × IsServed w mid after
IsExchange accepts false time before after v w =
    (mid : Streams) × IsServed v before mid × IsLearnt accepts time mid after v w

-- so it is of the node that was there: it learnt, or it had a whole exchange
abbrev pub LearnsOf : {K : Type 0} → (K → Accepts) → ℕ → Streams → Streams → Option (NodeView K) → Option (NodeView K) → Type 0
LearnsOf {K} accepts time before after old new =
    ForSome old (λ v. (w : NodeView K) × (new ≡ Some w) × IsLearnt accepts time before after v w)

abbrev pub ExchangesOf : {K : Type 0} → (K → Accepts) → Bool → ℕ → Streams → Streams
    → Option (NodeView K) → Option (NodeView K) → Type 0
ExchangesOf {K} accepts asks_first time before after old new =
    ForSome old (λ v. (w : NodeView K) × (new ≡ Some w) × IsExchange accepts asks_first time before after v w)

-- .. told of the streams outside
abbrev pub AsksOn : {K A B C : Type 0} → source.Ghosts B → sink.Ghosts C → StoredView K → Outside A B C → Outside A B C → Message → Type 0
AsksOn S T stored out after rows = ForSome stored.node (λ v. IsAsked v (streams_of S T out) (streams_of S T after) rows)

abbrev pub ServesOn : {K A B C : Type 0} → source.Ghosts B → sink.Ghosts C → StoredView K → Outside A B C → Outside A B C → Type 0
ServesOn S T stored out after = ForSome stored.node (λ v. IsServed v (streams_of S T out) (streams_of S T after))

abbrev pub LearnsOn : {K A B C : Type 0} → (K → Accepts) → ℕ → source.Ghosts B → sink.Ghosts C
    → StoredView K → StoredView K → Outside A B C → Outside A B C → Type 0
LearnsOn accepts time S T stored kept out after =
    LearnsOf accepts time (streams_of S T out) (streams_of S T after) stored.node kept.node

abbrev pub ExchangesOn : {K A B C : Type 0} → (K → Accepts) → Bool → ℕ → source.Ghosts B → sink.Ghosts C
    → StoredView K → StoredView K → Outside A B C → Outside A B C → Type 0
ExchangesOn accepts asks_first time S T stored kept out after =
    ExchangesOf accepts asks_first time (streams_of S T out) (streams_of S T after) stored.node kept.node

-- the time of an exchange behind so many others
abbrev pub time_behind : Request → ℕ → ℕ
time_behind asked n = min (asked.time + n) (2 ^ 64 - 1)

-- so many exchanges, one behind the other, with nothing heard or said between
abbrev pub AreExchanges : {K : Type 0} → (K → Accepts) → Request → ℕ → Streams → Streams → NodeView K → NodeView K → Type 0
AreExchanges accepts asked zero before after v w = (w ≡ v) × (after ≡ before)
AreExchanges {K} accepts asked (suc n) before after v w =
    (u : NodeView K) × (mid : Streams) × AreExchanges accepts asked n before mid v u
    × IsExchange accepts asked.asks_first (time_behind asked n) mid after u w

-- so it is of the node that was there
abbrev pub AreExchangesOf : {K : Type 0} → (K → Accepts) → Request → ℕ → Streams → Streams
    → Option (NodeView K) → Option (NodeView K) → Type 0
AreExchangesOf {K} accepts asked n before after old new =
    ForSome old (λ v. (w : NodeView K) × (new ≡ Some w) × AreExchanges accepts asked n before after v w)
