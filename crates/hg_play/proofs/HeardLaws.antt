-- The nodes as their seats have seen them, and what each has heard of each while calls go through the seats
use Rattle.std.proofs.Common.{◌≡◌, ◌≢◌, ℕ, zero, suc, ◌+◌, ◌<◌, ◌≤◌, List, [], ◌∷◌, ◌++◌, length, get_or, set, take, drop, length-drop, sym, refl, ap, ap₂, ◌∙◌, subst, arith}
use Rattle.std.proofs.lemmas.List.{get_or-map, length-map}
use Rattle.hg_model.specs.declared.row.Row.{Row}
use Rattle.hg_model.specs.Held.{lacking}
use Rattle.hg_life.specs.History.{Change}
use Rattle.hg_model.specs.Orders.{IsPrefix}
use Rattle.hg_life.specs.Signing.{accepts_by}
use Rattle.hg_life.specs.Terms.{row_limit}
use Rattle.hg_life.specs.NodeView.{NodeView, node_rows, terms_of}
use Rattle.hg_history.proofs.SoundLaws.{sound}
use Rattle.hg_history.proofs.StateLaws.{prefix_same, rows_grow}
use Rattle.hg_gossip.specs.Handing.{AreKnown, HeardView, Knows, LacksOf}
use Rattle.hg_gossip.specs.Known.{AreLonger, HasAll, HasRest, KeepsKnown, nth_rows}
use Rattle.hg_gossip.proofs.HandLaws.{knows_more, known_all, known_lacks, lacks_again, lacks_both, lacks_heard}
use Rattle.hg_gossip.proofs.KnownLaws.{known_for_good}
use Rattle.hg_board.specs.Table as board
use Rattle.hg_board.specs.Seats.{SharedNode, SeatView}
use Rattle.hg_crowd.specs.Crowd.{AreStill}
use Rattle.hg_crowd.specs.Party.{PartyView}
use Rattle.hg_crowd.proofs.ListLaws.{some_of}
use Rattle.hg_world.specs.World.{Secrets, WorldView, node_at, rows_at}
use Rattle.hg_world.specs.Parts.{no_node, nth_node, rows_of_each}
use Rattle.hg_play.specs.Alike.{AreAlike}
use Rattle.hg_play.specs.Heard.{nodes_by, nodes_seen, rows_seen}
use Rattle.hg_play.specs.Nodes.{IsKept}
use Rattle.hg_play.specs.Through.{AreNodes, AreSeen, node_seen, seen_shared}
use Rattle.hg_play.proofs.SharedLaws.{still_all}

-- by place

pub node_by : (places : List (SharedNode Secrets)) (seats : List (SeatView Secrets)) (m : ℕ) (p : SharedNode Secrets) (s : SeatView Secrets) → m < length places → m < length seats →
    nth_node (nodes_by places seats) m ≡ node_seen (get_or places m p) (get_or seats m s)
node_by [] seats m p s low there = absurd (omega (arith, low))
node_by (q ∷ places) [] m p s low there = absurd (omega (arith, there))
node_by (q ∷ places) (t ∷ seats) zero p s low there = refl
node_by (q ∷ places) (t ∷ seats) (suc m) p s low there = node_by places seats m p s (omega (arith, low)) (omega (arith, there))

pub nodes_length : (places : List (SharedNode Secrets)) (seats : List (SeatView Secrets)) → length seats ≡ length places → length (nodes_by places seats) ≡ length seats
nodes_length [] [] long = refl
nodes_length [] (s ∷ seats) long = absurd (omega (arith, long))
nodes_length (p ∷ places) [] long = refl
nodes_length (p ∷ places) (s ∷ seats) long = ap suc (nodes_length places seats (omega (arith, long)))

pub rows_nth : (nodes : List (NodeView Secrets)) (m : ℕ) → m < length nodes → nth_rows (rows_of_each nodes) m ≡ node_rows (nth_node nodes m)
rows_nth nodes m low = get_or-map (λ (v : NodeView Secrets). node_rows v) nodes m no_node [] low

pub rows_length : (places : List (SharedNode Secrets)) (seats : List (SeatView Secrets)) → length seats ≡ length places → length (rows_of_each (nodes_by places seats)) ≡ length seats
rows_length places seats long = length-map (nodes_by places seats) (λ (v : NodeView Secrets). node_rows v) ∙ nodes_length places seats long

module _ (v : PartyView Secrets) (are : AreNodes v.places v.seats) where
  abbrev long : length v.seats ≡ length v.places
  long = are.seated.count

  pub rows_here : (m : ℕ) → m < length v.seats → nth_rows (rows_seen v) m ≡ node_rows (nth_node (nodes_seen v) m)
  rows_here m low = rows_nth (nodes_seen v) m (omega (arith, low, nodes_length v.places v.seats long))

  -- a node has no more rows than it may
  pub few_rows : (m : ℕ) → m < length v.seats → length (node_rows (nth_node (nodes_seen v) m)) ≤ row_limit
  few_rows m low =
      let inside : m < length v.places = omega (arith, low, long) in
      let p : SharedNode Secrets = get_or v.places m (some_of v.places m inside) in
      let s : SeatView Secrets = get_or v.seats m (some_of v.seats m low) in
      let u : NodeView Secrets = node_seen p s in
      let node = (are.seated.each m (some_of v.places m inside) (some_of v.seats m low) inside).node in
      subst (λ (n : NodeView Secrets). length (node_rows n) ≤ row_limit) (sym (node_by v.places v.seats m (some_of v.places m inside) (some_of v.seats m low) inside low))
      (let few = (sound (terms_of accepts_by u.start) u.start.members u.start.coin u.start.own u.history node.coin node.history).few in let limit = node.limit in omega arith)

  -- it is that of each world whose nodes they are, but for marks
  pub node_agrees : (w : WorldView) (m : ℕ) → AreSeen v.places v.seats w → m < length v.seats → AreAlike (node_at w m) (nth_node (nodes_seen v) m)
  node_agrees w m agrees low =
      let inside : m < length v.places = omega (arith, low, long) in
      subst (AreAlike (node_at w m)) (sym (node_by v.places v.seats m (some_of v.places m inside) (some_of v.seats m low) inside low))
      (agrees.nodes m (some_of v.places m inside) (some_of v.seats m low) low)

  pub rows_agree : (w : WorldView) (m : ℕ) → AreSeen v.places v.seats w → m < length v.seats → rows_at w m ≡ nth_rows (rows_seen v) m
  rows_agree w m agrees low = (node_agrees w m agrees low).rows ∙ sym (rows_here m low)

-- another seat at one place
pub rows_others : (places : List (SharedNode Secrets)) (seats : List (SeatView Secrets)) (k : ℕ) (n : SeatView Secrets) (m : ℕ) → m ≢ k →
    nth_rows (rows_of_each (nodes_by places (set seats k n))) m ≡ nth_rows (rows_of_each (nodes_by places seats)) m
rows_others [] seats k n m other = refl
rows_others (p ∷ places) [] zero n m other = refl
rows_others (p ∷ places) [] (suc k) n m other = refl
rows_others (p ∷ places) (s ∷ seats) zero n zero other = absurd (other refl)
rows_others (p ∷ places) (s ∷ seats) zero n (suc m) other = refl
rows_others (p ∷ places) (s ∷ seats) (suc k) n zero other = refl
rows_others (p ∷ places) (s ∷ seats) (suc k) n (suc m) other = rows_others places seats k n m (λ same. other (ap suc same))

-- rows only get more

still_rows : (p : SharedNode Secrets) (a b : SeatView Secrets) → IsPrefix a.seen b.seen → IsPrefix (node_rows (node_seen p a)) (node_rows (node_seen p b))
still_rows p a b seen =
    let u : NodeView Secrets = node_seen p a in
    subst (λ (h : List Change). IsPrefix (node_rows u) (node_rows (board.node_at p.start h))) (sym seen.1) (rows_grow u.start.members u.start.coin u.history seen.0)

rows_longer : (places : List (SharedNode Secrets)) (seats news : List (SeatView Secrets)) → length seats ≡ length places → AreStill seats news → AreLonger (rows_of_each (nodes_by places seats)) (rows_of_each (nodes_by places news))
rows_longer places seats news long still =
    let many : length news ≡ length places = still.count ∙ long in
    record {
      count = rows_length places news many ∙ (still.count ∙ sym (rows_length places seats long));
      each = λ m low. (
          let here : m < length seats = omega (arith, low, rows_length places seats long) in
          let inside : m < length places = omega (arith, here, long) in
          let there : m < length news = omega (arith, here, still.count) in
          let p : SharedNode Secrets = some_of places m inside in
          let s : SeatView Secrets = some_of seats m here in
          let t : SeatView Secrets = some_of news m there in
          let old : nth_rows (rows_of_each (nodes_by places seats)) m ≡ node_rows (node_seen (get_or places m p) (get_or seats m s)) =
          rows_nth (nodes_by places seats) m (omega (arith, here, nodes_length places seats long)) ∙ ap (λ (v : NodeView Secrets). node_rows v) (node_by places seats m p s inside here) in
          let new : nth_rows (rows_of_each (nodes_by places news)) m ≡ node_rows (node_seen (get_or places m p) (get_or news m t)) =
          rows_nth (nodes_by places news) m (omega (arith, there, nodes_length places news many)) ∙ ap (λ (v : NodeView Secrets). node_rows v) (node_by places news m p t inside there) in
          subst (λ (G : List Row). IsPrefix G (nth_rows (rows_of_each (nodes_by places news)) m)) (sym old)
          (subst (IsPrefix (node_rows (node_seen (get_or places m p) (get_or seats m s)))) (sym new)
          (still_rows (get_or places m p) (get_or seats m s) (get_or news m t) (still.each m s t here).seen)));
    }

module _ (old new : PartyView Secrets) (are : AreNodes old.places old.seats) (kept : IsKept (seen_shared old) (seen_shared new)) where
  pub longer : AreLonger (rows_seen old) (rows_seen new)
  longer =
      let since = kept.since old (refl, still_all old.seats) in
      subst (λ (places : List (SharedNode Secrets)). AreLonger (rows_seen old) (rows_of_each (nodes_by places new.seats))) (sym since.0) (rows_longer old.places old.seats new.seats are.seated.count since.1)

  -- what was heard is heard still
  pub known_still : (known : List (List HeardView)) → KeepsKnown (rows_seen old) known → KeepsKnown (rows_seen new) known
  known_still known keeps = known_for_good (rows_seen old) (rows_seen new) known longer keeps

  pub rows_more : (m : ℕ) → m < length old.seats → IsPrefix (nth_rows (rows_seen old) m) (nth_rows (rows_seen new) m)
  rows_more m low = longer.each m (omega (arith, low, rows_length old.places old.seats are.seated.count))

-- of the rows that were handed over, once some of them came
pub rest_later : (old new : List (List Row)) (x y len : ℕ) (rows : List Row) → IsPrefix (nth_rows old x) (nth_rows new x) → nth_rows new y ≡ nth_rows old y → HasRest old x y len rows → HasRest new x y len rows
rest_later old new x y len rows grown same rest =
    let G = nth_rows old x in
    let now = nth_rows new x in
    let lacks : LacksOf now (nth_rows old y) rows = sym (lacks_again G now (nth_rows old y) grown) ∙ (ap (lacking now) rest.lacks ∙ lacks_again G now rows grown) in
    record {
      count = rest.count ∙ ap (λ (H : List Row). length H) (sym same);
      lacks = subst (λ (H : List Row). LacksOf now H rows) (sym same) lacks;
    }

-- all of them: those that were lacking are known
pub all_later : (rows : List (List Row)) (x y len : ℕ) (handed : List Row) → HasRest rows x y len handed → AreKnown (nth_rows rows x) handed → HasAll rows x y len
all_later rows x y len handed rest known =
    let G = nth_rows rows x in
    let none : lacking G (nth_rows rows y) ≡ [] = rest.lacks ∙ known_lacks G handed known in
    record {
      count = rest.count;
      all = known_all G G (nth_rows rows y) (prefix_same G G refl) (subst (AreKnown G) (sym none) tt);
    }

-- what is handed over: what was refused and is lacking still, and the rows behind those that were heard
pub handed_rows : (before H H_then : List Row) (heard : HeardView) (refused behind : List Row) → Knows before H heard → IsPrefix H H_then → refused ≡ lacking before heard.refused → behind ≡ drop heard.len H_then →
    refused ++ behind ≡ lacking before (take heard.len H_then) ++ drop heard.len H_then
handed_rows before H H_then heard refused behind knows more is rest =
    let then : Knows before H_then heard = knows_more before before H H_then heard (prefix_same before before refl) more knows in
    ap₂ (λ (xs ys : List Row). xs ++ ys) (is ∙ sym then.lacks) rest

pub handed_lacks : (before G H : List Row) (heard : HeardView) (refused behind : List Row) → IsPrefix before G → Knows G H heard → refused ≡ lacking before heard.refused → behind ≡ drop heard.len H →
    LacksOf G H (refused ++ behind)
handed_lacks before G H heard refused behind grown knows is rest =
    sym (lacks_both G refused behind
    ∙ (ap₂ (λ (xs ys : List Row). xs ++ ys) (ap (lacking G) is ∙ lacks_again before G heard.refused grown) (ap (lacking G) rest)
    ∙ lacks_heard G H heard knows))

pub handed_count : {A : Type 0} (H : List A) (from len : ℕ) (behind : List A) → from ≤ length H → behind ≡ drop from H → len ≡ from + length behind → len ≡ length H
handed_count H from len behind within is many = omega (arith, many, within, ap length is, length-drop from H)
