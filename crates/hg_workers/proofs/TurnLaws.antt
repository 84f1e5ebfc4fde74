-- What a turn of a worker adds
use Rattle.std.proofs.Common.{◌≡◌, ℕ, ◌+◌, ◌<◌, ◌≤◌, Bool, List, [], ◌∷◌, ◌++◌, length, length-append, take, Some, slice_get, sym, refl, ap, ◌∙◌, subst, arith}
use Rattle.std.proofs.lemmas.List.{append-nil, take-append-le}
use Rattle.std.proofs.Math.Seq.{take-length}
use mathlib.Core.Logic.{dite}
use native.Mathlib.Decide.{ℕ_discrete}
use Rattle.hg_model.specs.Fame.{Marks, mark_at}
use Rattle.hg_model.specs.Stakes.{Stakes}
use Rattle.hg_model.specs.Orders.{IsPrefix}
use Rattle.hg_model.specs.Shares.{Share, share_fame}
use Rattle.hg_life.specs.History.{Change, replay, with_marks}
use Rattle.hg_life.specs.History.Change.{Marked}
use Rattle.hg_life.specs.NodeView.{NodeView, IsNode, node_marks, node_rows, node_state, with_changes}
use Rattle.hg_life.specs.Calls.{publish_answer, publish_changes}
use Rattle.hg_life.specs.Signing.{Accepts}
use Rattle.hg_history.proofs.StateLaws.{even_after, links_grow, marks_stay, rows_grow}
use Rattle.hg_node.specs.ChronicleView.{marked}
use Rattle.hg_gossip.specs.Holding.{Seen}
use Rattle.hg_board.specs.Table.{node_at}
use Rattle.hg_board.specs.Seats.{SharedNode, SeatView}
use Rattle.hg_board.specs.Calls.{SeatPublishes}
use Rattle.hg_board.specs.Crews.{MarksAll, MarksOf, marked_by}
use Rattle.hg_board.specs.Laws.{AddsNone}
use Rattle.hg_board.proofs.ChangeLaws.{other_publishes_add_none, publishes_add_one}
use Rattle.hg_workers.specs.Turns.{marks_seen}
use Rattle.hg_workers.proofs.StateLaws.{marked_later, node_sound, nothing_published, published_later, published_marks, published_more, share_later}

pub get_push : (h : List Change) (e : Change) → slice_get (h ++ e ∷ []) (length h) ≡ Some e
get_push [] e = refl
get_push (d ∷ h) e = get_push h e

pub take_push : (h : List Change) (e : Change) → take (length h) (h ++ e ∷ []) ≡ h
take_push h e = take-append-le (length h) h (e ∷ []) (omega arith) ∙ take-length h

module _ {V : Type 0} (p : SharedNode V) where
  abbrev n : Stakes
  n = p.start.start.members

  abbrev coin : ℕ
  coin = p.start.start.coin

  -- of two moments the rows, the links and the marks of the later

  pub more_marks : (a b : SeatView V) → IsPrefix a.seen b.seen → marks_seen p a ≤ marks_seen p b
  more_marks a b first = subst (λ (h : List Change). marks_seen p a ≤ marked (replay n coin h).marks) (sym first.1) (marked_later n coin a.seen first.0)

  pub mark_stays : (a b : SeatView V) → IsPrefix a.seen b.seen → (x : ℕ) (v : Bool) → mark_at (node_marks (node_at p.start a.seen)) x ≡ Some v → mark_at (node_marks (node_at p.start b.seen)) x ≡ Some v
  mark_stays a b first x v is = subst (λ (h : List Change). mark_at (replay n coin h).marks x ≡ Some v) (sym first.1) (marks_stay n coin a.seen first.0 x v is)

  rows_later : (a b : List Change) → IsPrefix a b → IsPrefix (replay n coin a).rows (replay n coin b).rows
  rows_later a b first = subst (λ (h : List Change). IsPrefix (replay n coin a).rows (replay n coin h).rows) (sym first.1) (rows_grow n coin a first.0)

  links_later : (a b : List Change) → IsPrefix a b → IsPrefix (replay n coin a).links (replay n coin b).links
  links_later a b first = subst (λ (h : List Change). IsPrefix (replay n coin a).links (replay n coin h).links) (sym first.1) (links_grow n coin a first.0)

  module _ (accepts : V → Accepts) where
    -- what the graph decided before, a later one decides
    pub decided_later : (a b : SeatView V) → IsPrefix a.seen b.seen → IsNode accepts (node_at p.start b.seen) → (share : Share) (x : ℕ) (v : Bool) →
        share_fame n coin (replay n coin a.seen).rows (replay n coin a.seen).links share x ≡ Some v → share_fame n coin (replay n coin b.seen).rows (replay n coin b.seen).links share x ≡ Some v
    decided_later a b first node share x v is =
        let s = node_sound accepts (node_at p.start b.seen) node in
        share_later n coin (replay n coin a.seen) (replay n coin b.seen) (even_after n coin a.seen) (even_after n coin b.seen) (rows_later a.seen b.seen first) (links_later a.seen b.seen first) s.graph s.linked share x v is

    -- so what marks all that the later graph decides marks all that the earlier does
    pub marks_all_before : (a b c : SeatView V) (share : Share) → IsPrefix a.seen b.seen → IsNode accepts (node_at p.start b.seen) → MarksAll p share b c → MarksAll p share a c
    marks_all_before a b c share first node all x v is = all x v (decided_later a b first node share x v is)

    -- a publication by a seat
    module _ (c d : SeatView V) (len : ℕ) (share : Share) (count : ℕ) (publishes : SeatPublishes accepts p c len share d count) where
      reached : List Change
      reached = c.seen ++ publishes.waits.others

      here : NodeView V
      here = node_at p.start reached

      node_is : publishes.reached.node ≡ here
      unfolding reached here
      node_is = ap (λ (s : Seen V). s.node) publishes.waits.later

      grown_is : node_at p.start d.seen ≡ with_changes here (publish_changes here len share)
      grown_is = ap (λ (s : Seen V). s.node) publishes.grown ∙ ap (λ (v : NodeView V). with_changes v (publish_changes v len share)) node_is

      count_is : count ≡ publish_answer here len share
      count_is = publishes.answers ∙ ap (λ (v : NodeView V). publish_answer v len share) node_is

      lawful : IsNode accepts (node_at p.start c.seen) → IsNode accepts here
      lawful node = subst (IsNode accepts) node_is (publishes.waits.lawful node)

      begins : IsPrefix c.seen reached
      unfolding reached
      begins = (publishes.waits.others, refl)

      module _ (all : len ≡ length (node_rows (node_at p.start c.seen))) where
        within : len ≤ length (node_rows here)
        unfolding here
        within =
            let rows = rows_later c.seen reached begins in
            omega (arith, all, ap length rows.1, length-append (replay n coin c.seen).rows rows.0)

        pub more_by_turn : marks_seen p c + count ≤ marks_seen p d
        unfolding reached here
        more_by_turn =
            let before : marks_seen p c ≤ marked (node_marks here) = marked_later n coin c.seen publishes.waits.others in
            let after : marked (node_marks here) + publish_answer here len share ≤ marks_seen p d =
            subst (λ (v : NodeView V). marked (node_marks here) + publish_answer here len share ≤ marked (node_marks v)) (sym grown_is) (published_more here len share within) in
            let counted = count_is in
            omega (arith, before, after, counted)

        pub marks_by_turn : IsNode accepts (node_at p.start c.seen) → MarksAll p share c d
        unfolding here
        marks_by_turn node x v is =
            let s = node_sound accepts here (lawful node) in
            let marks : node_marks (node_at p.start d.seen) ≡ (with_marks n coin (node_state here) len share).marks =
            ap (λ (w : NodeView V). node_marks w) grown_is ∙ published_marks here len share within in
            ap (λ (f : Marks). mark_at f x) marks
            ∙ (ap (λ (k : ℕ). mark_at (with_marks n coin (node_state here) k share).marks x) all
            ∙ published_later n coin (replay n coin c.seen) (replay n coin reached) (even_after n coin c.seen) (even_after n coin reached) (rows_later c.seen reached begins) (links_later c.seen reached begins)
            s.graph s.linked s.fame share x v is)

      -- it is the one change that the seat added, if it marked some witness
      marks_one : 0 < count → MarksOf p share c d count
      marks_one some =
          let one = publishes_add_one V accepts p c d len share count some publishes in
          let h = one.0 in
          let added = one.1 in
          let there : slice_get d.seen (length h) ≡ Some (Marked len share) = ap (λ (xs : List Change). slice_get xs (length h)) added.grown ∙ get_push h (Marked len share) in
          let before : take (length h) d.seen ≡ h = ap (λ (xs : List Change). take (length h) xs) added.grown ∙ take_push h (Marked len share) in
          let marks : marked_by (node_at p.start (take (length h) d.seen)) (slice_get d.seen (length h)) ≡ publish_answer (node_at p.start h) len share =
          (λ i. marked_by (node_at p.start (before i)) (there i)) in
          record {
            more = length h ∷ [];
            mine = added.mine;
            marks = ((len, there), tt);
            counted = omega (arith, one.2, marks);
          }

      marks_none : count ≡ 0 → MarksOf p share c d count
      marks_none none =
          let added = (other_publishes_add_none V accepts p c d len share (subst (SeatPublishes accepts p c len share d) none publishes)).0 in
          record { more = []; mine = added.mine ∙ sym (append-nil c.mine); marks = tt; counted = none }

      pub marks_of_turn : MarksOf p share c d count
      marks_of_turn = dite (ℕ_discrete count 0) marks_none (λ some. marks_one (omega arith))

    -- one of nothing adds nothing
    pub nothing_added : (c d : SeatView V) (share : Share) (count : ℕ) → SeatPublishes accepts p c 0 share d count → AddsNone c d
    nothing_added c d share count publishes =
        (other_publishes_add_none V accepts p c d 0 share (subst (SeatPublishes accepts p c 0 share d) (publishes.answers ∙ nothing_published publishes.reached.node share) publishes)).0
