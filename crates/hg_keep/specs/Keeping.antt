-- What is done to a node that is kept in a journal: events are put to it, it makes the one that comes next, if a time is given
-- for it, and it publishes all fame that its graph decides
use Rattle.std.specs.Prelude.{◌≡◌, ◌⊎◌, ℕ, ◌+◌, ◌<◌, List, [], ◌∷◌, length, fold, slice_get, take, Option, Some, None, option_map, unwrap_or}
use Rattle.std.specs.Option.{ForSome}
use Rattle.hex.specs.Hex.{encode_lower}
use Rattle.hg_life.specs.declared.answers.MakeAnswer.{MakeAnswer}
use Rattle.hg_life.specs.declared.answers.MakeAnswer.TheVariants as answer
use Rattle.hg_life.specs.declared.answers.PutAnswer.{PutAnswer}
use Rattle.hg_life.specs.declared.answers.PutAnswer.TheVariants.{Accepted, Known, Refused}
use Rattle.hg_life.specs.Calls.{IsMaking, IsSettled, put_answer, settle_changes}
use Rattle.hg_life.specs.Members.{MemberList, names_of}
use Rattle.hg_life.specs.NodeView.{NodeView, node_rows, with_changes}
use Rattle.hg_life.specs.Signing.{Accepts}
use Rattle.hg_life.specs.Spelling.{spelling}
use Rattle.hg_node.specs.Next.{next_others}
use Rattle.hg_node.specs.Puts.{after_put}
use Rattle.hg_outcome.specs.declared.outcome.Outcome.{Outcome}
use Rattle.hg_outcome.specs.declared.outcome.Printed.TheVariants as printed
use Rattle.hg_outcome.specs.Ledger.{block_of}
use Rattle.hg_play.specs.Sites.{IsMadeWith}
use Rattle.hg_keep.specs.declared.kept.PutCounts.{PutCounts}
use Rattle.hg_keep.specs.declared.kept.KeepReport.{KeepReport}
use Rattle.hg_keep.specs.declared.kept.Making.{Making}
use Rattle.hg_keep.specs.declared.kept.Making.TheVariants as making

-- ---- putting events

abbrev pub no_counts : PutCounts
no_counts = record { accepted = 0; known = 0; refused = 0 }

-- the counts with one answer more
abbrev pub counted : PutCounts → PutAnswer → PutCounts
counted c (Accepted place) = record { accepted = c.accepted + 1; known = c.known; refused = c.refused }
counted c (Known place) = record { accepted = c.accepted; known = c.known + 1; refused = c.refused }
counted c (Refused fault) = record { accepted = c.accepted; known = c.known; refused = c.refused + 1 }

-- a node and the counts once one event more was put
abbrev pub put_one : {K : Type 0} → (K → Accepts) → NodeView K × PutCounts → List ℕ → NodeView K × PutCounts
put_one accepts so_far bytes = (after_put accepts so_far.0 bytes, counted so_far.1 (put_answer accepts so_far.0 bytes))

-- a node once these were put to it, one after the other, and how many of them were accepted, known and refused
abbrev pub puts : {K : Type 0} → (K → Accepts) → NodeView K → List (List ℕ) → NodeView K × PutCounts
puts accepts v events = fold (put_one accepts) (v, no_counts) events

-- a node once some first ones of these were put to it
abbrev pub IsPutSome : {K : Type 0} → (K → Accepts) → List (List ℕ) → NodeView K → NodeView K → Type 0
IsPutSome accepts events v w = (n : ℕ) × (w ≡ (puts accepts v (take n events)).0)

-- so it is of the node that was there
abbrev pub PutsSome : {K : Type 0} → (K → Accepts) → List (List ℕ) → Option (NodeView K) → Option (NodeView K) → Type 0
PutsSome {K} accepts events old new = ForSome old (λ v. (w : NodeView K) × (new ≡ Some w) × IsPutSome accepts events v w)

-- .. once all were put
abbrev pub PutsAll : {K : Type 0} → (K → Accepts) → List (List ℕ) → Option (NodeView K) → Option (NodeView K) → PutCounts → Type 0
PutsAll accepts events old new counts =
    ForSome old (λ v. (new ≡ Some (puts accepts v events).0) × (counts ≡ (puts accepts v events).1))

-- ---- making an event

-- the answer to making the event that comes next, and the node then; no answer where none comes next
abbrev pub IsTurn : {K : Type 0} → (K → Accepts) → NodeView K → ℕ → Option MakeAnswer → NodeView K → Type 0
IsTurn accepts v time None w = (w ≡ v) × (next_others v ≡ None)
IsTurn accepts v time (Some a) w = (others : List (List ℕ)) × (next_others v ≡ Some others) × IsMaking accepts v others time [] a w

-- the bytes of the row at this place
abbrev pub bytes_at : {K : Type 0} → NodeView K → ℕ → List ℕ
bytes_at v place = unwrap_or (option_map spelling (slice_get (node_rows v) place)) []

-- what is told of it
abbrev pub told_of : {K : Type 0} → NodeView K → Option MakeAnswer → Making
told_of v None = making.PeerBare
told_of v (Some (answer.Made place)) = making.Made place (encode_lower (bytes_at v place))
told_of v (Some (answer.Refused fault)) = making.Refused fault

-- the same at a time, if one is given
abbrev pub MakesAt : {K : Type 0} → (K → Accepts) → NodeView K → Option ℕ → Option Making → NodeView K → Type 0
MakesAt accepts v None told w = (told ≡ None) × (w ≡ v)
MakesAt accepts v (Some time) told w = (a : Option MakeAnswer) × IsTurn accepts v time a w × (told ≡ Some (told_of w a))

-- so it is of the node that was there
abbrev pub MakesOf : {K : Type 0} → (K → Accepts) → Option ℕ → Option (NodeView K) → Option (NodeView K) → Option Making → Type 0
MakesOf {K} accepts time old new told = ForSome old (λ v. (w : NodeView K) × (new ≡ Some w) × MakesAt accepts v time told w)

abbrev pub TurnOf : {K : Type 0} → (K → Accepts) → ℕ → Option (NodeView K) → Option (NodeView K) → Option MakeAnswer → Type 0
TurnOf {K} accepts time old new a = ForSome old (λ v. (w : NodeView K) × (new ≡ Some w) × IsTurn accepts v time a w)

-- a node once the next event was made, at a time, if one is given; or before
abbrev pub IsMadeSome : {K : Type 0} → (K → Accepts) → Option ℕ → NodeView K → NodeView K → Type 0
IsMadeSome accepts time v w = (w ≡ v) ⊎ ((told : Option Making) × MakesAt accepts v time told w)

-- an event that was made has a row
abbrev pub HasRow : {K : Type 0} → Option MakeAnswer → Option (NodeView K) → Type 0
HasRow (Some (answer.Made place)) holder = ForSome holder (λ v. place < length (node_rows v))
HasRow a holder = Unit {0}

-- ---- all of it

-- a node once all is published that its graph decides
abbrev pub settled : {K : Type 0} → NodeView K → NodeView K
settled v = with_changes v (settle_changes v)

-- .. or before
abbrev pub IsSettledSome : {K : Type 0} → NodeView K → NodeView K → Type 0
IsSettledSome v w = (w ≡ v) ⊎ (w ≡ settled v)

-- its block by its graph's own fame, with the members' names
abbrev pub shown : {K : Type 0} → MemberList → NodeView K → Outcome
shown members v = record { names = names_of members; printed = printed.Block (block_of members v.start.own (node_rows v)) ∷ [] }

-- what came of the work on a node, and the node then
pub record IsKept {K : Type 0} (accepts : K → Accepts) (members : MemberList) (events : List (List ℕ)) (time : Option ℕ) (v : NodeView K) (kept : KeepReport) (w : NodeView K) : Type 0 where
  pub opened : kept.opened ≡ length (node_rows v)
  pub counts : kept.counts ≡ (puts accepts v events).1
  pub made : NodeView K
  pub makes : MakesAt accepts (puts accepts v events).0 time kept.made made
  pub last : w ≡ settled made
  pub outcome : kept.outcome ≡ shown members w

-- a node on the way from v: once some first events were put, or all of them and the next was made, or all is published too
abbrev pub IsOnTheWay : {K : Type 0} → (K → Accepts) → List (List ℕ) → Option ℕ → NodeView K → NodeView K → Type 0
IsOnTheWay {K} accepts events time v w =
    IsPutSome accepts events v w
    ⊎ ((made : NodeView K) × (told : Option Making) × MakesAt accepts (puts accepts v events).0 time told made × IsSettledSome made w)

-- so it is of the node that was there
abbrev pub KeptOf : {K : Type 0} → (K → Accepts) → MemberList → List (List ℕ) → Option ℕ
    → Option (NodeView K) → Option (NodeView K) → KeepReport → Type 0
KeptOf {K} accepts members events time old new kept =
    ForSome old (λ v. (w : NodeView K) × (new ≡ Some w) × IsKept accepts members events time v kept w)

-- .. of settling it
abbrev pub SettlesOf : {K : Type 0} → (K → Accepts) → Option (NodeView K) → Option (NodeView K) → Type 0
SettlesOf accepts old new = ForSome old (λ v. (new ≡ Some (settled v)) × IsSettled v (settled v))

-- the node that is there was made with these members
abbrev pub IsMadeWithOf : {K : Type 0} → MemberList → Option (NodeView K) → Type 0
IsMadeWithOf members node = ForSome node (IsMadeWith members)
