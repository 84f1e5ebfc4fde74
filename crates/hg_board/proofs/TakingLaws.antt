-- What a seat has while it puts events to the node in its hand, one after the other
use Rattle.std.proofs.Common.{append_assoc, ◌≡◌, ℕ, zero, suc, ◌+◌, ◌<◌, true, false, cond, List, [], ◌∷◌, ◌++◌, length, take, drop, get_or, Result, Ok, Err, refl, sym, ap, ap₂, ◌∙◌, subst, add-one, arith, length-append}
use Rattle.std.specs.Prelude.{OnErr}
use Rattle.std.specs.declared.sync.Arc.{Arc}
use Rattle.std.proofs.lemmas.List.{append-nil, get_or-map, length-map, take-append-drop}
use Rattle.std.proofs.lemmas.List.Sums.{fold-append}
use Rattle.std.proofs.Math.Seq.{take-suc}
use Rattle.hg_model.specs.declared.row.Row.{Row}
use Rattle.hg_life.specs.declared.answers.PutAnswer.{PutAnswer}
use Rattle.hg_life.specs.Spelling.{spelling}
use Rattle.hg_model.specs.Held.{is_held}
use Rattle.hg_life.specs.History.{Change}
use Rattle.hg_life.specs.NodeView.{NodeView, Start, node_rows, with_changes}
use Rattle.hg_life.specs.Calls.{put_answer}
use Rattle.hg_life.specs.Signing.{Accepts}
use Rattle.hg_graph.specs.RowsWithRoom.{rows_of}
use Rattle.hg_node.specs.Puts.{WouldAccept, after_put}
use Rattle.hg_gossip.specs.declared.gossip.Taken.{Taken}
use Rattle.hg_gossip.specs.Gossip.{none_taken, with_answer}
use Rattle.hg_gossip.specs.Nodes.{Taking, take_event, taking_of}
use Rattle.hg_gossip.specs.Holding.{positions_from}
use Rattle.hg_board.specs.Table.{node_at}
use Rattle.hg_board.specs.Steps.{Hand}
use Rattle.hg_board.specs.Turns.{IsGrown, IsInside, inside_at, mine_with}
use Rattle.hg_board.specs.Taking.{AddsInside, AreSignedFor, IsSignedFor, TakesFirst, take_row, taking_rows}
use Rattle.hg_board.proofs.TurnLaws.{drop_front}

positions_past : (p : ℕ) (h es : List Change) → positions_from p (h ++ es) ≡ positions_from p h ++ positions_from (p + length h) es
positions_past p [] es = ap (λ (q : ℕ). positions_from q es) (omega arith)
positions_past p (e ∷ h) es =
    ap (λ (ps : List ℕ). p ∷ ps) (positions_past (suc p) h es ∙ ap (λ (q : ℕ). positions_from (suc p) h ++ positions_from q es) (omega arith))

module _ {V : Type 0} where
  pub adds_none : (m : Hand V) (v : NodeView V) → IsInside m → AddsInside m m v v
  adds_none m v t = record {
    more = [];
    grown = ap (λ (h : List Change). node_at v h) (sym (append-nil v.history));
    inside = t.inside ∙ (λ i. inside_at m.0 (sym (append-nil m.0.seen) i) (sym (append-nil m.0.mine) i));
  }

  adds_these : (start : NodeView V) (m n : Hand V) (v w : NodeView V) (es : List Change) → v ≡ node_at start m.0.seen → w ≡ with_changes v es →
      n ≡ inside_at m.0 w.history (mine_with m.0 w.history) → AddsInside m n v w
  adds_these start m n v w es at grown is =
      let h : w.history ≡ m.0.seen ++ es = ap (λ (x : NodeView V). x.history) grown ∙ ap (λ (x : NodeView V). x.history ++ es) at in
      let added : drop (length m.0.seen) w.history ≡ es = ap (drop (length m.0.seen)) h ∙ drop_front m.0.seen es in
      record {
        more = es;
        grown = grown;
        inside = is ∙ (λ i. inside_at m.0 (h i) (m.0.mine ++ positions_from (length m.0.seen) (added i)));
      }

  -- the count was raised for what a call added
  pub adds_grown : (start : NodeView V) (m n : Hand V) (v w : NodeView V) → v ≡ node_at start m.0.seen → IsGrown v w → n ≡ inside_at m.0 w.history (mine_with m.0 w.history) → AddsInside m n v w
  adds_grown start m n v w at g is = adds_these start m n v w g.changes at g.grown is

  -- and then for what another added
  pub adds_both : (m n o : Hand V) (v w x : NodeView V) → AddsInside m n v w → AddsInside n o w x → AddsInside m o v x
  adds_both m n o v w x a b =
      let seen : (m.0.seen ++ a.more) ++ b.more ≡ m.0.seen ++ (a.more ++ b.more) = append_assoc m.0.seen a.more b.more in
      let places : positions_from (length m.0.seen) a.more ++ positions_from (length (m.0.seen ++ a.more)) b.more ≡ positions_from (length m.0.seen) (a.more ++ b.more) =
      ap (λ (q : ℕ). positions_from (length m.0.seen) a.more ++ positions_from q b.more) (length-append m.0.seen a.more) ∙ sym (positions_past (length m.0.seen) a.more b.more) in
      record {
        more = a.more ++ b.more;
        grown = b.grown ∙ (ap (λ (y : NodeView V). with_changes y b.more) a.grown ∙ ap (λ (h : List Change). node_at v h) (append_assoc v.history a.more b.more));
        inside = b.inside
            ∙ (ap (λ (y : Hand V). inside_at y.0 (y.0.seen ++ b.more) (y.0.mine ++ positions_from (length y.0.seen) b.more)) a.inside
            ∙ (λ i. inside_at m.0 (seen i)
            ((append_assoc m.0.mine (positions_from (length m.0.seen) a.more) (positions_from (length (m.0.seen ++ a.more)) b.more) ∙ ap (λ (ps : List ℕ). m.0.mine ++ ps) places) i)));
      }

  pub inside_still : (m n : Hand V) (v w : NodeView V) → IsInside m → AddsInside m n v w → IsInside n
  inside_still m n v w t a =
      let parts : n.0.parts ≡ m.0.parts = ap (λ (x : Hand V). x.0.parts) a.inside in
      record {
        alive = omega (arith, parts, t.alive);
        inside = subst (λ (x : Hand V). x ≡ inside_at x.0 x.0.seen x.0.mine) (sym a.inside) refl;
      }

  pub node_still : (start : NodeView V) (m n : Hand V) (v w : NodeView V) → v ≡ node_at start m.0.seen → AddsInside m n v w → w ≡ node_at start n.0.seen
  node_still start m n v w at a =
      a.grown ∙ (ap (λ (x : NodeView V). with_changes x a.more) at ∙ ap (λ (h : List Change). node_at start h) (sym (ap (λ (x : Hand V). x.0.seen) a.inside)))

  pub start_still : (m n : Hand V) (v w : NodeView V) → AddsInside m n v w → w.start ≡ v.start
  start_still m n v w a = ap (λ (x : NodeView V). x.start) a.grown

module _ {K : Type 0} (accepts : K → Accepts) where
  -- what is taken where the name is new, and where it is not
  pub takes_new : (v w : NodeView K) (row : Row) (counts more : Taken) (answer : PutAnswer) → is_held (node_rows v) row.name ≡ false → w ≡ after_put accepts v (spelling row) →
      answer ≡ put_answer accepts v (spelling row) → more ≡ with_answer counts answer → taking_of w more ≡ take_row accepts (taking_of v counts) row
  takes_new v w row counts more answer new grown answers counted =
      ap₂ (λ (x : NodeView K) (t : Taken). taking_of x t) grown (counted ∙ ap (with_answer counts) answers)
      ∙ sym (ap (λ b. cond b (taking_of v counts) (take_event accepts (taking_of v counts) (spelling row))) new)

  pub takes_held : (v : NodeView K) (row : Row) (counts : Taken) → is_held (node_rows v) row.name ≡ true → taking_of v counts ≡ take_row accepts (taking_of v counts) row
  takes_held v row counts held = sym (ap (λ b. cond b (taking_of v counts) (take_event accepts (taking_of v counts) (spelling row))) held)

module _ {K A : Type 0} (accepts : K → Accepts) (v : NodeView K) (events : List (Arc Row A)) where
  rows_take : (i : ℕ) → i < length events → (event : Arc Row A) → event ≡ get_or events i event → take (i + 1) (rows_of events) ≡ take i (rows_of events) ++ event.value ∷ []
  rows_take i low event is =
      let row : event.value ≡ get_or (rows_of events) i event.value =
      sym (get_or-map (λ (e : Arc Row A). e.value) events i event event.value low ∙ ap (λ (e : Arc Row A). e.value) (sym is)) in
      ap (λ (n : ℕ). take n (rows_of events)) (add-one i)
      ∙ (take-suc (rows_of events) i event.value (omega (arith, low, length-map events (λ (e : Arc Row A). e.value))) ∙ ap (λ (r : Row). take i (rows_of events) ++ r ∷ []) (sym row))

  -- nothing is taken yet
  pub taken_none : taking_rows accepts v [] ≡ taking_of v none_taken
  unfolding taking_rows
  taken_none = refl

  -- one event more
  pub taken_more : (i : ℕ) → i < length events → (event : Arc Row A) → event ≡ get_or events i event → (w x : NodeView K) (counts more : Taken) →
      taking_rows accepts v (take i (rows_of events)) ≡ taking_of w counts → taking_of x more ≡ take_row accepts (taking_of w counts) event.value →
      taking_rows accepts v (take (i + 1) (rows_of events)) ≡ taking_of x more
  unfolding taking_rows
  taken_more i low event is w x counts more first next =
      ap (taking_rows accepts v) (rows_take i low event is)
      ∙ (fold-append (take_row accepts) (taking_of v none_taken) (take i (rows_of events)) (event.value ∷ []) ∙ (ap (λ (t : Taking K). take_row accepts t event.value) first ∙ sym next))

  -- memory ran out at one
  pub taken_first : (i : ℕ) → i < length events → (event : Arc Row A) → event ≡ get_or events i event → (w x : NodeView K) (counts : Taken) →
      taking_rows accepts v (take i (rows_of events)) ≡ taking_of w counts → x ≡ w → WouldAccept accepts w (spelling event.value) → TakesFirst accepts v (rows_of events) x
  taken_first i low event is w x counts first same full =
      let rows : take i (rows_of events) ++ event.value ∷ drop (i + 1) (rows_of events) ≡ rows_of events = whole in
      record {
        first = take i (rows_of events);
        next = event.value;
        rest = drop (i + 1) (rows_of events);
        whole = sym rows;
        counts = counts;
        taken = first ∙ ap (λ (y : NodeView K). taking_of y counts) (sym same);
        full = subst (λ (y : NodeView K). WouldAccept accepts y (spelling event.value)) (sym same) full;
      }
    where
      whole : take i (rows_of events) ++ event.value ∷ drop (i + 1) (rows_of events) ≡ rows_of events
      whole =
          sym (append_assoc (take i (rows_of events)) (event.value ∷ []) (drop (i + 1) (rows_of events)))
          ∙ (ap (λ (rs : List Row). rs ++ drop (i + 1) (rows_of events)) (sym (rows_take i low event is)) ∙ take-append-drop (i + 1) (rows_of events))

-- each of the events is signed
pub signed_at : {K A : Type 0} (accepts : K → Accepts) (a b : Start K) (events : List (Arc Row A)) (i : ℕ) (event : Arc Row A) → b ≡ a → AreSignedFor accepts a (rows_of events) → i < length events →
    event ≡ get_or events i event → IsSignedFor accepts b event.value
signed_at {K} {A} accepts a b events i event same all low is =
    subst (λ (s : Start K). IsSignedFor accepts s event.value) (sym same) (subst (λ (e : Arc Row A). IsSignedFor accepts a e.value) (sym is) (each events i event all low))
  where
    each : (es : List (Arc Row A)) (j : ℕ) (d : Arc Row A) → AreSignedFor accepts a (rows_of es) → j < length es → IsSignedFor accepts a (get_or es j d).value
    each [] j d every less = absurd (omega (arith, less))
    each (e ∷ es) zero d every less = every.0
    each (e ∷ es) (suc j) d every less = each es j d every.1 (omega (arith, less))

-- memory ran out
pub run_out : {A E : Type 0} (result : Result A E) {P : Type 0} → P → OnErr result P
run_out (Ok a) p = tt
run_out (Err e) p = p
