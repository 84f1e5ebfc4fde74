-- Where steps of gossip lead, and what stops leave on the way.
use Rattle.std.proofs.Common.{◌≡◌, inl, inr, ℕ, suc, Bool, true, false, List, [], ◌∷◌, take, Option, Some, is_some, refl, sym, ◌∙◌, ap, subst, length}
use Rattle.std.specs.Option.{ForSome}
use Rattle.std.specs.Prelude.{Result, Ok, Err, IsSome, OnOk}
use Rattle.hg_io.specs.FileView.{FileView}
use Rattle.hg_life.specs.NodeView.{NodeView, Start}
use Rattle.hg_life.specs.Signing.{Accepts}
use Rattle.hg_keep.specs.Keeping.{IsMadeSome, IsSettledSome, PutsAll, SettlesOf, TurnOf, puts, settled, told_of}
use Rattle.hg_keep.specs.Stops.{StopsLeave, StopsLeaveOf}
use Rattle.hg_keep.specs.declared.kept.PutCounts.{PutCounts}
use Rattle.hg_keep.proofs.StopLaws.{leaves_on, leaves_wider, some_is, some_value, told_still}
use Rattle.hg_keep.proofs.WayLaws.{makes_start, puts_start}
use Rattle.hg_life.specs.declared.answers.MakeAnswer.{MakeAnswer}
use Rattle.hg_wire.specs.Exchange.{rows_in}
use Rattle.hg_wire.specs.declared.message.Message.{Message}
use Rattle.relay.specs.Exchanges.{AreExchanges, AreExchangesOf, ExchangesOf, IsAsked, IsExchange, IsServed, LearnsOf, Streams, time_behind}
use Rattle.relay.specs.declared.request.Request.{Request}
use Rattle.relay.specs.Steps.{IsRelayed, IsStep, LeadsOver, Makes, Puts, RelaysAll, RelaysOf, Settles, StopsRelayOf}

module _ {K : Type 0} (accepts : K → Accepts) where
  -- ---- what a node begins with does not change

  made_start : (v w : NodeView K) (time : ℕ) → IsMadeSome accepts (Some time) v w → w.start ≡ v.start
  made_start v w time (inl same) = ap (λ (x : NodeView K). x.start) same
  made_start v w time (inr made) = makes_start accepts v w (Some time) made.0 made.1

  settled_start : (v w : NodeView K) → IsSettledSome v w → w.start ≡ v.start
  settled_start v w (inl same) = ap (λ (x : NodeView K). x.start) same
  settled_start v w (inr is) = ap (λ (x : NodeView K). x.start) is

  step_start : (v w : NodeView K) → IsStep accepts v w → w.start ≡ v.start
  step_start v w (Puts events some) = ap (λ (x : NodeView K). x.start) some.1 ∙ puts_start accepts v (take some.0 events)
  step_start v w (Makes time some) = made_start v w time some
  step_start v w (Settles some) = settled_start v w some

  leads_start : (v : NodeView K) (over : List (NodeView K)) (w : NodeView K) → LeadsOver accepts v over w → w.start ≡ v.start
  leads_start v [] w is = ap (λ (x : NodeView K). x.start) is
  leads_start v (u ∷ before) w leads = step_start u w leads.1 ∙ leads_start v before u leads.0

  pub relayed_start : (v w : NodeView K) → IsRelayed accepts v w → w.start ≡ v.start
  relayed_start v w relayed = leads_start v relayed.0 w relayed.1

  -- ---- one way behind another

  pub still : (v : NodeView K) → IsRelayed accepts v v
  still v = ([], refl)

  pub one_step : (v w : NodeView K) → IsStep accepts v w → IsRelayed accepts v w
  one_step v w step = (v ∷ [], (refl, step))

  leads_on : (v : NodeView K) (over : List (NodeView K)) (u : NodeView K) (more : List (NodeView K)) (w : NodeView K) → LeadsOver accepts v over u → LeadsOver accepts u more w → IsRelayed accepts v w
  leads_on v over u [] w first is = (over, subst (λ (x : NodeView K). LeadsOver accepts v over x) (sym is) first)
  leads_on v over u (x ∷ more) w first second =
      let so = leads_on v over u more x first second.0 in
      (x ∷ so.0, (so.1, second.1))

  pub relayed_on : (v u w : NodeView K) → IsRelayed accepts v u → IsRelayed accepts u w → IsRelayed accepts v w
  relayed_on v u w first second = leads_on v first.0 u second.0 w first.1 second.1

  pub relays_still : (node : Option (NodeView K)) → RelaysOf accepts node node
  relays_still node v is = (v, is, still v)

  pub relays_on : (node next last : Option (NodeView K)) → RelaysOf accepts node next → RelaysOf accepts next last → RelaysOf accepts node last
  relays_on node next last first second v is =
      let u = first v is in
      let w = second u.0 u.1 in
      (w.0, w.1, relayed_on v u.0 w.0 u.2 w.2)

  pub there_relays : (node next : Option (NodeView K)) → IsSome node → RelaysOf accepts node next → IsSome next
  there_relays node next there relays =
      let v = some_value node there in
      subst (λ (o : Option (NodeView K)). IsSome o) (sym (relays v.0 v.1).1) refl

  -- ---- what stops leave

  pub stops_step : (comes : NodeView K → NodeView K → Type 0) → ((v w : NodeView K) → comes v w → IsStep accepts v w) → (node : Option (NodeView K)) (a b : FileView) → StopsLeaveOf accepts comes node a b → StopsRelayOf accepts node a b
  stops_step comes steps node a b stops v is told = leaves_wider accepts v.start (comes v) (IsRelayed accepts v) a b (λ w some. one_step v w (steps v w some)) (stops v is told)

  pub stops_on : (node next : Option (NodeView K)) (a b c : FileView) → RelaysOf accepts node next → is_some b.reads ≡ is_some a.reads → StopsRelayOf accepts node a b → StopsRelayOf accepts next b c → StopsRelayOf accepts node a c
  stops_on node next a b c relays shown first second v is told =
      let u = relays v is in
      let later = subst (λ (s : Start K). StopsLeave accepts s (IsRelayed accepts u.0) b c) (relayed_start v u.0 u.2) (second u.0 u.1 (told_still a.reads b.reads shown told)) in
      leaves_on accepts v.start (IsRelayed accepts v) a b c (first v is told)
      (leaves_wider accepts v.start (IsRelayed accepts u.0) (IsRelayed accepts v) b c (λ w some. relayed_on v u.0 w u.2 some) later)

  -- ---- the parts of the work

  -- all of them were put
  take_all : (xs : List (List ℕ)) → take (length xs) xs ≡ xs
  take_all [] = refl
  take_all (x ∷ xs) = ap (λ (ys : List (List ℕ)). x ∷ ys) (take_all xs)

  pub relays_put : (events : List (List ℕ)) (node next : Option (NodeView K)) (counts : PutCounts) → PutsAll accepts events node next counts → RelaysOf accepts node next
  relays_put events node next counts all v is = (
    (puts accepts v events).0,
    (all v is).0,
    one_step v (puts accepts v events).0 (Puts events (length events, ap (λ (es : List (List ℕ)). (puts accepts v es).0) (sym (take_all events)))),
  )

  -- the next was made, or none comes next
  pub relays_turn : (time : ℕ) (node next : Option (NodeView K)) (a : Option MakeAnswer) → TurnOf accepts time node next a → RelaysOf accepts node next
  relays_turn time node next a turn v is =
      let one = turn v is in
      (one.0, one.1, one_step v one.0 (Makes time (inr (Some (told_of one.0 a), (a, one.2, refl)))))

  pub relays_settled : (node next : Option (NodeView K)) → SettlesOf accepts node next → RelaysOf accepts node next
  relays_settled node next done v is = (settled v, (done v is).0, one_step v (settled v) (Settles (inr refl)))

  pub learns_of : (time : ℕ) (before after : Streams) (rows : Message) (events : List (List ℕ)) (node next last : Option (NodeView K)) (counts : PutCounts) (a : Option MakeAnswer)
      → ForSome node (λ v. IsAsked v before after rows) → events ≡ rows_in rows → PutsAll accepts events node next counts → TurnOf accepts time next last a → LearnsOf accepts time before after node last
  learns_of time before after rows events node next last counts a asks same all turn v is =
      let put = subst (λ (es : List (List ℕ)). next ≡ Some (puts accepts v es).0) same (all v is).0 in
      let one = turn (puts accepts v (rows_in rows)).0 put in
      (one.0, one.1, record { rows = rows; asks = asks v is; answer = a; turn = one.2 })

  pub exchanges_asking : {T E : Type 0} (asks_first : Bool) (time : ℕ) (before mid after : Streams) (node next : Option (NodeView K)) (r : Result T E) → asks_first ≡ true → LearnsOf accepts time before mid node next
      → OnOk r (ForSome next (λ w. IsServed w mid after)) → OnOk r (ExchangesOf accepts asks_first time before after node next)
  exchanges_asking asks_first time before mid after node next (Ok x) so learns serves = λ v is.
      let one = learns v is in
      (one.0, one.1, subst (λ (b : Bool). IsExchange accepts b time before after v one.0) (sym so) (mid, one.2, serves one.0 one.1))
  exchanges_asking asks_first time before mid after node next (Err e) so learns serves = tt

  pub exchanges_serving : {T E : Type 0} (asks_first : Bool) (time : ℕ) (before mid after : Streams) (node next : Option (NodeView K)) (r : Result T E) → asks_first ≡ false → ForSome node (λ v. IsServed v before mid)
      → OnOk r (LearnsOf accepts time mid after node next) → OnOk r (ExchangesOf accepts asks_first time before after node next)
  exchanges_serving asks_first time before mid after node next (Ok x) so serves learns = λ v is.
      let one = learns v is in
      (one.0, one.1, subst (λ (b : Bool). IsExchange accepts b time before after v one.0) (sym so) (mid, serves v is, one.2))
  exchanges_serving asks_first time before mid after node next (Err e) so serves learns = tt

  pub exchanges_none : (asked : Request) (streams : Streams) (node : Option (NodeView K)) → AreExchangesOf accepts asked 0 streams streams node node
  exchanges_none asked streams node v is = (v, is, (refl, refl))

  pub exchanges_more : (asked : Request) (n time : ℕ) (before mid after : Streams) (node next last : Option (NodeView K)) → time ≡ time_behind asked n
      → AreExchangesOf accepts asked n before mid node next → ExchangesOf accepts asked.asks_first time mid after next last → AreExchangesOf accepts asked (suc n) before after node last
  exchanges_more asked n time before mid after node next last at so_far one v is =
      let u = so_far v is in
      let e = one u.0 u.1 in
      (e.0, e.1, (u.0, mid, u.2, subst (λ (t : ℕ). IsExchange accepts asked.asks_first t mid after u.0 e.0) at e.2))

  -- the two ways to one node
  same_node : (o : Option (NodeView K)) (u w : NodeView K) → o ≡ Some u → o ≡ Some w → w ≡ u
  same_node o u w first second = some_is w u (sym second ∙ first)

  pub relays_all : (asked : Request) (before after : Streams) (node next last : Option (NodeView K)) → RelaysOf accepts node next → AreExchangesOf accepts asked asked.exchanges before after node next → SettlesOf accepts next last
      → (v : NodeView K) → node ≡ Some v → RelaysAll accepts asked before after v last
  relays_all asked before after node next last relays so_far done v is =
      let u = relays v is in
      let e = so_far v is in
      record {
        last = u.0;
        relayed = u.2;
        exchanges = subst (λ (w : NodeView K). AreExchanges accepts asked asked.exchanges before after v w) (same_node next u.0 e.0 u.1 e.1) e.2;
        settles = subst (λ (o : Option (NodeView K)). SettlesOf accepts o last) u.1 done;
      }
