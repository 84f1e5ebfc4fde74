-- The events of a node's order only go on
use Rattle.std.proofs.Common.{◌≡◌, ℕ, ◌<◌, Bool, true, false, cond, List, [], ◌∷◌, ◌++◌, length, map, sym, refl, ap, ap₂, ◌∙◌, subst, arith}
use Rattle.std.specs.Prelude.{All}
use Rattle.std.proofs.lemmas.List.{get_or_append_left, map-append}
use Rattle.std.proofs.lemmas.List.Elements.{All-head, All-tail}
use Rattle.hg_model.specs.declared.row.Row.{Row}
use Rattle.hg_model.specs.declared.row.Placed.{Placed}
use Rattle.hg_model.specs.Stakes.{Stakes}
use Rattle.hg_model.specs.Links.{no_row}
use Rattle.hg_life.specs.Kept.{kept}
use Rattle.hg_life.specs.History.{Change, IsHistory, replay}
use Rattle.hg_life.specs.Signing.{accepts_by}
use Rattle.hg_life.specs.Terms.{Terms}
use Rattle.hg_model.specs.Orders.{IsPrefix}
use Rattle.hg_model.proofs.OrderLaws.{ordered_within}
use Rattle.hg_history.proofs.StateLaws.{even_after, rows_grow}
use Rattle.hg_history.proofs.KeptLaws.{order_grows}
use Rattle.hg_world.specs.declared.step.Step.{Step}
use Rattle.hg_world.specs.World.{WorldView, node_at}
use Rattle.hg_world.specs.Parts.{IsWorld, KeepsSite}
use Rattle.hg_world.specs.World.{site_at}
use Rattle.hg_world.specs.Steps.{after_steps}
use Rattle.hg_world.specs.Laws.{Grows}
use Rattle.hg_world.proofs.StepLaws.{steps_sites}
use Rattle.hg_world.proofs.GrowthLaws.{steps_grown, steps_members}
use Rattle.order_match.specs.Books.{BookView, Event}
use Rattle.order_market.specs.declared.action.Action.{Action}
use Rattle.order_market.specs.Market.{AreBehind, HasBooks, action_steps, after_action, event_in, events_after, events_at, is_action_of}
use Rattle.hg_life.specs.NodeView.{terms_of}

-- ---- the events of an order

pub kept_places : (n : Stakes) (c : ℕ) (h : List Change) → All (λ (p : Placed). p.place < length (replay n c h).rows) (kept n (replay n c h))
kept_places n c h =
    let s = replay n c h in
    subst (λ (k : ℕ). All (λ (p : Placed). p.place < k) (kept n s)) (even_after n c h).links (ordered_within n s.rows s.links s.marks)

rows_leave : (G more : List Row) (order : List Placed) → All (λ (p : Placed). p.place < length G) order → map (event_in (G ++ more)) order ≡ map (event_in G) order
rows_leave G more [] within = refl
rows_leave G more (p ∷ order) within =
    ap₂ (λ (row : Row) (rest : List Event). let e : Event = record { member = row.creator; payload = row.payload } in e ∷ rest)
    (get_or_append_left G more no_row p.place (All-head (λ (q : Placed). q.place < length G) p order within))
    (rows_leave G more order (All-tail (λ (q : Placed). q.place < length G) p order within))

events_grow : (terms : Terms) (n : Stakes) (c own : ℕ) (a b : List Change) → 2 < c → IsHistory terms n c own (a ++ b) → IsPrefix (events_after n c a) (events_after n c (a ++ b))
events_grow terms n c own a b three is =
    let s = replay n c a in
    let t = replay n c (a ++ b) in
    let order = order_grows terms n c own a b three is in
    let rows = rows_grow n c a b in (
      map (event_in t.rows) order.0,
      ap (map (event_in t.rows)) order.1
          ∙ (map-append (event_in t.rows) (kept n s) order.0
          ∙ ap (λ (front : List Event). front ++ map (event_in t.rows) order.0)
          (ap (λ (G : List Row). map (event_in G) (kept n s)) rows.1 ∙ rows_leave s.rows rows.0 (kept n s) (kept_places n c a))),
    )

-- a member's node in a world has a history
pub history_at : (w : WorldView) → (is : IsWorld w) → (m : ℕ) → m < length w.sites → IsHistory (terms_of accepts_by (node_at w m).start) w.members w.coin m (node_at w m).history
history_at w is m low =
    let site : KeepsSite w is.keys m (site_at w m) = is.sites m low in
    let v = node_at w m in
    subst (λ (k : ℕ). IsHistory (terms_of accepts_by v.start) w.members w.coin k v.history) site.is.own
    (subst (λ (c : ℕ). IsHistory (terms_of accepts_by v.start) w.members c v.start.own v.history) site.is.coin
    (subst (λ (n : Stakes). IsHistory (terms_of accepts_by v.start) n v.start.coin v.start.own v.history) site.is.members site.node.history))

-- what a node orders after steps begins with what it ordered before
events_go_on : (w u : WorldView) (steps : List Step) → u ≡ after_steps w steps → IsWorld u → (m : ℕ) → m < length w.sites → IsPrefix (events_at w m) (events_at u m)
events_go_on w u steps later is m low =
    let grown : Grows (node_at w m).history (node_at u m).history = subst (λ (x : WorldView). Grows (node_at w m).history (node_at x m).history) (sym later) (steps_grown w steps m low) in
    let inside : m < length u.sites = omega (arith, low, ap (λ (x : WorldView). length x.sites) later, steps_sites w steps) in
    let members : u.members ≡ w.members = ap (λ (x : WorldView). x.members) later ∙ (steps_members w steps).0 in
    let period : u.coin ≡ w.coin = ap (λ (x : WorldView). x.coin) later ∙ (steps_members w steps).1 in
    let history = subst (IsHistory (terms_of accepts_by (node_at u m).start) u.members u.coin m) grown.1 (history_at u is m inside) in
    let prefix = events_grow (terms_of accepts_by (node_at u m).start) u.members u.coin m (node_at w m).history grown.0 is.coin history in
    let front : events_after u.members u.coin (node_at w m).history ≡ events_at w m = ap₂ (λ (n : Stakes) (c : ℕ). events_after n c (node_at w m).history) members period in (
      prefix.0,
      ap (events_after u.members u.coin) grown.1 ∙ (prefix.1 ∙ ap (λ (events : List Event). events ++ prefix.0) front),
    )

behind : (w u : WorldView) (steps : List Step) (books : List BookView) → u ≡ after_steps w steps → IsWorld u → HasBooks w books → AreBehind u books
behind w u steps books later is has = record {
  count = has.count ∙ (sym (steps_sites w steps) ∙ ap (λ (x : WorldView). length x.sites) (sym later));
  each = λ m low. (
      let prefix = events_go_on w u steps later is m (omega (arith, low, has.count)) in
      record { first = events_at w m; rest = prefix.0; whole = prefix.1; is = has.each m low });
}

-- an action is some steps, or none
pub behind_after : (w u : WorldView) (action : Action) (books : List BookView) → u ≡ after_action w action → IsWorld u → HasBooks w books → AreBehind u books
behind_after w u action books later is has = by (is_action_of w action) later
  where
    by : (b : Bool) → u ≡ cond b (after_steps w (action_steps w action)) w → AreBehind u books
    by true at = behind w u (action_steps w action) books at is has
    by false at = behind w u [] books at is has
