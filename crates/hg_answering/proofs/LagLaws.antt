-- Notes of first rows and of a first part of the order, once more of both came
use Rattle.std.proofs.Common.{◌≡◌, ℕ, zero, suc, ◌+◌, ◌<◌, ◌≤◌, Bool, true, false, List, ◌++◌, length, take, get_or, refl, sym, ap, ap₂, ◌∙◌, subst, arith, add-one, length-append, length-take}
use Rattle.std.specs.Prelude.{All, count_by}
use Rattle.std.proofs.lemmas.List.{get_or-take, get_or_append_left, take-append-le, take_all}
use Rattle.std.proofs.lemmas.List.Sums.{count_by_more_no, count_by_more_yes}
use Rattle.hg_model.specs.Graph.{IsShaped}
use Rattle.hg_model.specs.Links.{Link, links, no_row}
use Rattle.hg_model.specs.Orders.{IsPrefix}
use Rattle.hg_model.specs.Prefix.{graph_of}
use Rattle.hg_model.specs.Stakes.{Stakes, member_count}
use Rattle.hg_model.specs.declared.row.Placed.{Placed}
use Rattle.hg_model.specs.declared.row.Row.{Row}
use Rattle.hg_model.proofs.LinkLaws.{length-links}
use Rattle.hg_model.proofs.OrderLaws.{ordered_within}
use Rattle.hg_life.specs.History.{Change}
use Rattle.hg_life.specs.Members.{MemberList}
use Rattle.hg_life.specs.NodeView.{IsNode, NodeView, kept_of, node_rows, node_state, terms_of, with_changes}
use Rattle.hg_life.specs.Signing.{Accepts}
use Rattle.hg_history.proofs.KeptLaws.{order_grows}
use Rattle.hg_history.proofs.SoundLaws.{moment, sound}
use Rattle.hg_history.proofs.StateLaws.{rows_grow}
use Rattle.hg_service.specs.Binding.{bound_payload}
use Rattle.hg_answering.specs.Notes.{AreLagging}
use Rattle.hg_answering.specs.OrderNotes.{first_ordered}
use Rattle.hg_answering.specs.RowNotes.{AreFirst, RowNotesView, first_notes}
use Rattle.hg_answering.specs.Telling.{has_payload, orders_payload}
use Rattle.hg_answering.specs.declared.notes.Notes.{Notes}
use Rattle.hg_answering.specs.declared.order_notes.OrderNotes.{OrderNotes}
use Rattle.hg_answering.proofs.NoteLaws.{notes_later}

-- ---- rows

pub rows_lag : (bound : List ℕ) (n : Stakes) (c : ℕ) (G H : List Row) (notes : RowNotesView) → IsShaped n (links G) → IsPrefix G H
    → AreFirst bound (graph_of n c G) notes → AreFirst bound (graph_of n c H) notes
rows_lag bound n c G H notes shaped (more, is) first =
    let within = first.within in
    let long = length-append G more in
    let longer = ap (λ (X : List Row). length X) is in
    record {
      within = omega (arith, within, long, longer);
      noted = first.noted ∙ (notes_later bound (member_count n) n G more (length notes.sequences) shaped within
          ∙ ap (λ (X : List Row). first_notes bound (member_count n) X (length notes.sequences)) (sym is));
    }

-- ---- the order

no_entry : Placed
no_entry = record { place = 0; received = 0; time = 0 }

count_front : (one two : Placed → Bool) (xs : List Placed) (k : ℕ) → k ≤ length xs → All (λ x. one x ≡ two x) xs → count_by one (take k xs) ≡ count_by two (take k xs)
count_front one two xs zero within same = refl
count_front one two xs (suc k) within same =
    subst (λ (n : ℕ). count_by one (take n xs) ≡ count_by two (take n xs)) (add-one k)
    (by_test (count_front one two xs k (omega (arith, within)) same) (one (get_or xs k no_entry)) refl)
  where
    here : one (get_or xs k no_entry) ≡ two (get_or xs k no_entry)
    here = same k no_entry within

    by_test : count_by one (take k xs) ≡ count_by two (take k xs) → (b : Bool) → one (get_or xs k no_entry) ≡ b → count_by one (take (k + 1) xs) ≡ count_by two (take (k + 1) xs)
    by_test before true is =
        count_by_more_yes one xs k no_entry within is ∙ (ap (λ (n : ℕ). n + 1) before ∙ sym (count_by_more_yes two xs k no_entry within (sym here ∙ is)))
    by_test before false is =
        count_by_more_no one xs k no_entry within is ∙ (before ∙ sym (count_by_more_no two xs k no_entry within (sym here ∙ is)))

count_same : (one two : Placed → Bool) (xs : List Placed) → All (λ x. one x ≡ two x) xs → count_by one xs ≡ count_by two xs
count_same one two xs same =
    let whole : take (length xs) xs ≡ xs = take_all (length xs) xs (omega arith) in
    ap (count_by one) (sym whole) ∙ (count_front one two xs (length xs) (omega arith) same ∙ ap (count_by two) whole)

payload_same : (G more : List Row) (order : List Placed) → All (λ (p : Placed). p.place < length G) order → All (λ (p : Placed). orders_payload G p ≡ orders_payload (G ++ more) p) order
payload_same G more order places = λ k d below. ap (λ (row : Row). has_payload row) (sym (get_or_append_left G more no_row (get_or order k d).place (places k d below)))

take_within : {A : Type 0} (Is : A → Type 0) (len : ℕ) (xs : List A) → All Is xs → All Is (take len xs)
take_within Is len xs all = λ k d below.
    let short = length-take len xs in
    subst Is (sym (get_or-take len xs k d (omega (arith, below, short)))) (all k d (omega (arith, below, short)))

pub order_lag : (G H : List Row) (order later : List Placed) (len : ℕ) → IsPrefix G H → IsPrefix order later → All (λ (p : Placed). p.place < length G) order → len ≤ length order
    → first_ordered G order len ≡ first_ordered H later len
order_lag G H order later len (more, rows_is) (further, order_is) places within =
    let front : take len order ≡ take len later = sym (take-append-le len order further within) ∙ ap (take len) (sym order_is) in
    let counts : count_by (orders_payload G) (take len order) ≡ count_by (orders_payload (G ++ more)) (take len order) =
    count_same (orders_payload G) (orders_payload (G ++ more)) (take len order)
    (payload_same G more (take len order) (take_within (λ (p : Placed). p.place < length G) len order places)) in
    let all : count_by (orders_payload G) (take len order) ≡ count_by (orders_payload H) (take len later) =
    counts ∙ ap₂ (λ (X : List Row) (ps : List Placed). count_by (orders_payload X) ps) (sym rows_is) front in
    ap (λ (k : ℕ). (let notes : OrderNotes = record { ordered = len; payloads = k } in notes)) all

-- ---- a node

pub lagging_on : {K : Type 0} (accepts : K → Accepts) (members : MemberList) (v : NodeView K) (changes : List Change) (notes : Notes)
    → IsNode accepts (with_changes v changes) → AreLagging members v notes → AreLagging members (with_changes v changes) notes
lagging_on accepts members v changes notes node lags =
    let n = v.start.members in
    let c = v.start.coin in
    let terms = terms_of accepts v.start in
    let before = moment terms n c v.start.own v.history changes node.history in
    let early = sound terms n c v.start.own v.history node.coin before in
    let grown = order_grows terms n c v.start.own v.history changes node.coin node.history in
    let rows = rows_grow n c v.history changes in
    let longer : length (kept_of v) ≤ length (kept_of (with_changes v changes)) =
    (let more = length-append (kept_of v) grown.0 in let is = ap (λ (ps : List Placed). length ps) grown.1 in omega (arith, more, is)) in
    let linked : length (node_state v).links ≡ length (node_rows v) = ap (λ (L : List Link). length L) early.linked ∙ length-links (node_rows v) in
    let places : All (λ (p : Placed). p.place < length (node_rows v)) (kept_of v) =
    subst (λ (k : ℕ). All (λ (p : Placed). p.place < k) (kept_of v)) linked (ordered_within n (node_rows v) (node_state v).links (node_state v).marks) in
    let within = lags.within in
    record {
      begun = lags.begun;
      bound = lags.bound;
      rows = rows_lag (bound_payload members) n c (node_rows v) (node_rows (with_changes v changes)) notes.rows early.graph.shaped rows lags.rows;
      within = omega (arith, within, longer);
      order = lags.order ∙ order_lag (node_rows v) (node_rows (with_changes v changes)) (kept_of v) (kept_of (with_changes v changes)) notes.order.ordered rows grown places within;
    }
