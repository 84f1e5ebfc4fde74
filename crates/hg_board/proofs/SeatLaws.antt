-- What a call did to its seat, from the steps inside
use Rattle.std.proofs.Common.{◌≡◌, ℕ, ◌≤◌, Bool, true, false, cond, eqb, List, [], ◌∷◌, ◌++◌, length, length-append, drop, Result, Ok, Err, Option, None, Some, refl, sym, ap, ◌∙◌, subst, arith}
use Rattle.std.specs.Prelude.{IfOk, OnErr, OnOk}
use Rattle.std.proofs.lemmas.Bool.{true≢false}
use Rattle.std.proofs.lemmas.List.{append-nil}
use Rattle.atomic_table.specs.Seated.{TableId}
use Rattle.hg_model.specs.declared.row.Row.{Row}
use Rattle.hg_life.specs.declared.answers.ByteFault.{ByteFault}
use Rattle.hg_life.specs.declared.answers.PutAnswer.{PutAnswer}
use Rattle.hg_life.specs.declared.answers.PutAnswer.TheVariants.{Accepted, Known, Refused}
use Rattle.hg_life.specs.declared.answers.MakeAnswer.{MakeAnswer}
use Rattle.hg_life.specs.declared.answers.MakeAnswer.TheVariants as made
use Rattle.hg_model.specs.declared.share.Found.{Found}
use Rattle.hg_model.specs.Orders.{IsPrefix}
use Rattle.hg_life.specs.Reading.{read_event}
use Rattle.hg_life.specs.Spelling.{spelling}
use Rattle.hg_model.specs.Shares.{Share}
use Rattle.hg_life.specs.Verdict.{made_row, row_verdict}
use Rattle.hg_life.specs.History.{Change}
use Rattle.hg_life.specs.History.Change.{Marked}
use Rattle.hg_life.specs.NodeView.{NodeView, IsNode, node_rows, with_changes, terms_of}
use Rattle.hg_life.specs.Calls.{IsMaking, made_by, make_answer, make_changes, publish_answer, publish_changes, put_answer, put_changes, taken_by, taken_from}
use Rattle.hg_life.specs.Signing.{Accepts}
use Rattle.hg_node.specs.ChronicleView.{IsFoundBy}
use Rattle.hg_node.specs.Next.{MakesNext}
use Rattle.hg_node.specs.Puts.{WouldAccept}
use Rattle.hg_history.proofs.FoundLaws.{news_lasts}
use Rattle.hg_history.proofs.StateLaws.{prefix_more}
use Rattle.hg_gossip.specs.declared.gossip.Taken.{Taken}
use Rattle.hg_gossip.specs.Nodes.{taking_of}
use Rattle.hg_gossip.specs.Holding.{Seen, Waits, positions_from, rules_alone, seen_whole, with_own}
use Rattle.hg_gossip.proofs.AloneLaws.{waits_alone}
use Rattle.hg_board.specs.declared.view.View.{View}
use Rattle.hg_board.specs.Positions.{AreBelow}
use Rattle.hg_board.specs.Table.{node_at}
use Rattle.hg_board.specs.Steps.{Hand}
use Rattle.hg_board.specs.Seats.{IsOf, SharedNode, SeatView, shared_node, seen_by, seat_view_of}
use Rattle.hg_board.specs.Turns.{Enters, IsGrown, IsInside, inside_at, mine_with, outside_at}
use Rattle.hg_board.specs.Calls.{SeatMakes, SeatMakesNext, SeatPublishes, SeatPuts, SeatWaits, Stays, rules_shared}
use Rattle.hg_board.specs.Taking.{AddsInside, SeatTakes, SeatTakesFirst, TakesFirst, taking_rows}
use Rattle.hg_board.proofs.PositionLaws.{below_append, below_more, from_below}
use Rattle.hg_board.proofs.PrefixLaws.{prefix_front, prefix_length}
use Rattle.hg_board.proofs.TurnLaws.{drop_front}

-- each call adds one change at most

few_taken : (answer : PutAnswer) (row : Row) → length (taken_by answer row) ≤ 1
few_taken (Accepted p) row = omega arith
few_taken (Known p) row = omega arith
few_taken (Refused f) row = omega arith

few_read : {V : Type 0} (accepts : V → Accepts) (v : NodeView V) (read : Result Row ByteFault) → length (taken_from accepts v read) ≤ 1
few_read accepts v (Err e) = omega arith
few_read accepts v (Ok row) = few_taken (row_verdict (terms_of accepts v.start) v.start.members v.start.own (node_rows v) row) row

few_put : {V : Type 0} (accepts : V → Accepts) (v : NodeView V) (bytes : List ℕ) → length (put_changes accepts v bytes) ≤ 1
unfolding put_changes
few_put accepts v bytes = few_read accepts v (read_event bytes)

few_made : (answer : MakeAnswer) (row : Row) → length (made_by answer row) ≤ 1
few_made (made.Made p) row = omega arith
few_made (made.Refused f) row = omega arith

few_make : {V : Type 0} (v : NodeView V) (others : List (List ℕ)) (time : ℕ) (payload sig : List ℕ) → length (make_changes v others time payload sig) ≤ 1
unfolding make_changes
few_make v others time payload sig = few_made (make_answer v others time payload sig) (made_row v.start.own (node_rows v) others time payload sig)

few_by : (b : Bool) (e : Change) → length (cond b [] (e ∷ [])) ≤ 1
few_by true e = omega arith
few_by false e = omega arith

few_publish : {V : Type 0} (v : NodeView V) (len : ℕ) (share : Share) → length (publish_changes v len share) ≤ 1
unfolding publish_changes
few_publish v len share = few_by (eqb (publish_answer v len share) 0) (Marked len share)

module _ {V : Type 0} (accepts : V → Accepts) where
  with_no_change : (v w : NodeView V) → w ≡ v → w ≡ with_changes v []
  with_no_change v w same = same ∙ ap (λ (h : List Change). node_at v h) (sym (append-nil v.history))

  grown_none : (v w : NodeView V) → w ≡ v → IsGrown v w
  grown_none v w same = record { changes = []; few = omega arith; grown = with_no_change v w same }

  pub put_grown : {E : Type 0} (v w : NodeView V) (bytes : List ℕ) (result : Result PutAnswer E) → OnOk result (w ≡ with_changes v (put_changes accepts v bytes)) → OnErr result (w ≡ v) → IsGrown v w
  put_grown v w bytes (Ok a) grown same = record { changes = put_changes accepts v bytes; few = few_put accepts v bytes; grown = grown }
  put_grown v w bytes (Err e) grown same = grown_none v w same

  pub make_grown : {E : Type 0} (v w : NodeView V) (others : List (List ℕ)) (time : ℕ) (payload : List ℕ) (result : Result MakeAnswer E) →
      IfOk result (λ a. IsMaking accepts v others time payload a w) → OnErr result (w ≡ v) → IsGrown v w
  make_grown v w others time payload (Ok a) making same = record {
    changes = make_changes v others time payload making.sig;
    few = few_make v others time payload making.sig;
    grown = making.grown;
  }
  make_grown v w others time payload (Err e) making same = grown_none v w same

  -- what the next event made of the node is a change, or none
  next_changes : (v w : NodeView V) (time : ℕ) (next : Option MakeAnswer) → MakesNext accepts v time next w → IsGrown v w
  next_changes v w time None none = grown_none v w none.0
  next_changes v w time (Some a) some =
      let making : IsMaking accepts v some.0 time [] a w = some.2.making in
      record {
        changes = make_changes v some.0 time [] making.sig;
        few = few_make v some.0 time [] making.sig;
        grown = making.grown;
      }

  pub next_grown : {E : Type 0} (v w : NodeView V) (time : ℕ) (result : Result (Option MakeAnswer) E) → IfOk result (λ next. MakesNext accepts v time next w) → OnErr result (w ≡ v) → IsGrown v w
  next_grown v w time (Ok next) makes same = next_changes v w time next makes
  next_grown v w time (Err e) makes same = grown_none v w same

  pub publish_grown : (v w : NodeView V) (len : ℕ) (share : Share) → w ≡ with_changes v (publish_changes v len share) → IsGrown v w
  publish_grown v w len share grown = record { changes = publish_changes v len share; few = few_publish v len share; grown = grown }

  module _ (start : NodeView V) (m n : Hand V) (node : NodeView V) (count : ℕ) (inside : Enters accepts start m n node count) where
    pub is_inside : IsInside n
    is_inside =
        let parts : n.0.parts ≡ m.0.parts = ap (λ (x : Hand V). x.0.parts) inside.inside in
        record {
          alive = omega (arith, parts, inside.alive);
          inside = subst (λ (x : Hand V). x ≡ inside_at x.0 x.0.seen x.0.mine) (sym inside.inside) refl;
        }

    pub seen_inside : n.0.seen ≡ inside.history
    seen_inside = ap (λ (x : Hand V). x.0.seen) inside.inside

    -- the node has what the seat has seen
    pub node_inside : node ≡ node_at start n.0.seen
    node_inside = inside.found ∙ ap (λ (h : List Change). node_at start h) (sym seen_inside)

    pub count_inside : count ≡ length n.0.seen
    count_inside = inside.counted ∙ ap length (sym seen_inside)

    pub grown_inside : (w : NodeView V) → IsGrown node w → IsGrown (node_at start n.0.seen) w
    grown_inside w g = subst (λ (v : NodeView V). IsGrown v w) node_inside g

    -- what may be published where the seat was may be at the history
    pub found_inside : (found : Found) → IsFoundBy (node_at start m.0.seen) found → IsFoundBy node found
    found_inside found finds =
        subst (λ (v : NodeView V). IsFoundBy v found) (sym inside.found)
        (subst (λ (h : List Change). IsFoundBy (node_at start h) found) (sym inside.seen.1)
        (news_lasts start.start.members start.start.coin m.0.seen inside.seen.0 found.len found.share found.marks finds))

    module _ (table old new : TableId) (of : IsOf (shared_node table start) (seat_view_of old m.0)) (same : new ≡ old) (o : Hand V) where
      abbrev known : List Change → List ℕ → Seen V
      known h positions = record { node = node_at start h; positions = positions }

      abbrev reached : Seen V
      reached = known inside.history m.0.mine

      others_came : Waits (rules_shared accepts) (seen_by (shared_node table start) (seat_view_of old m.0)) reached
      others_came = record {
        others = inside.seen.0;
        alone = λ e. absurd (true≢false e);
        later = ap (λ (h : List Change). known h m.0.mine) inside.seen.1;
        lawful = λ is. inside.lawful;
      }

      -- the changes of its own
      module _ (es : List Change) (left : o ≡ outside_at m.0 (inside.history ++ es) (m.0.mine ++ positions_from (length inside.history) es)) where
        own_seen : o.0.seen ≡ inside.history ++ es
        own_seen = ap (λ (x : Hand V). x.0.seen) left

        own_more : IsPrefix m.0.seen (inside.history ++ es)
        own_more = prefix_more m.0.seen inside.history (inside.history ++ es) inside.seen (prefix_front inside.history es)

        own_new : seen_by (shared_node table start) (seat_view_of new o.0) ≡ with_own reached es
        own_new = ap (λ (x : Hand V). seen_by (shared_node table start) (seat_view_of new x.0)) left

        own_stays : IsNode accepts (node_at start (inside.history ++ es)) → Stays accepts (shared_node table start) (seat_view_of old m.0) (seat_view_of new o.0)
        own_stays lawful = record {
          of = record { table = same ∙ of.table; start = ap (λ (x : Hand V). x.0.start) left ∙ of.start };
          parts = ap (λ (x : Hand V). x.0.parts) left;
          seen = subst (IsPrefix m.0.seen) (sym own_seen) own_more;
          begun = subst (IsPrefix start.history) (sym own_seen) (prefix_more start.history m.0.seen (inside.history ++ es) inside.knows.begun own_more);
          within = subst (λ (x : Hand V). AreBelow (length x.0.seen) x.0.mine) (sym left)
              (below_append (length (inside.history ++ es)) m.0.mine (positions_from (length inside.history) es)
              (below_more (length m.0.seen) (length (inside.history ++ es)) m.0.mine (prefix_length m.0.seen (inside.history ++ es) own_more) inside.knows.within)
              (subst (λ (n : ℕ). AreBelow n (positions_from (length inside.history) es)) (sym (length-append inside.history es)) (from_below (length inside.history) es)));
          node = subst (λ (h : List Change). IsNode accepts (node_at start h)) (sym own_seen) lawful;
        }

      -- a call that changed nothing
      module _ (left : o ≡ outside_at n.0 n.0.seen n.0.mine) where
        read_left : o ≡ outside_at m.0 inside.history m.0.mine
        read_left = left ∙ ap (λ (x : Hand V). outside_at x.0 x.0.seen x.0.mine) inside.inside

        pub read_stays : Stays accepts (shared_node table start) (seat_view_of old m.0) (seat_view_of new o.0)
        read_stays = record {
          of = record { table = same ∙ of.table; start = ap (λ (x : Hand V). x.0.start) read_left ∙ of.start };
          parts = ap (λ (x : Hand V). x.0.parts) read_left;
          seen = subst (IsPrefix m.0.seen) (sym (ap (λ (x : Hand V). x.0.seen) read_left)) inside.seen;
          begun = subst (IsPrefix start.history) (sym (ap (λ (x : Hand V). x.0.seen) read_left)) (prefix_more start.history m.0.seen inside.history inside.knows.begun inside.seen);
          within = subst (λ (x : Hand V). AreBelow (length x.0.seen) x.0.mine) (sym read_left)
              (below_more (length m.0.seen) (length inside.history) m.0.mine (prefix_length m.0.seen inside.history inside.seen) inside.knows.within);
          node = subst (λ (h : List Change). IsNode accepts (node_at start h)) (sym (ap (λ (x : Hand V). x.0.seen) read_left)) inside.lawful;
        }

        pub read_waits : SeatWaits accepts (shared_node table start) (seat_view_of old m.0) (seat_view_of new o.0)
        read_waits = subst (Waits (rules_shared accepts) (seen_by (shared_node table start) (seat_view_of old m.0)))
            (sym (ap (λ (x : Hand V). seen_by (shared_node table start) (seat_view_of new x.0)) read_left)) others_came

        pub read_node : node ≡ node_at start o.0.seen
        read_node = inside.found ∙ ap (λ (h : List Change). node_at start h) (sym (ap (λ (x : Hand V). x.0.seen) read_left))

        pub read_seen : (p : SharedNode V) → shared_node table start ≡ p → node ≡ (seen_by p (seat_view_of new o.0)).node
        read_seen p is = read_node ∙ ap (λ (q : SharedNode V). node_at q.start o.0.seen) is

      -- a call that may have changed the node to w
      module _ (w : NodeView V) (left : o ≡ outside_at n.0 w.history (mine_with n.0 w.history)) where
        grown_left : (es : List Change) → w ≡ with_changes node es → o ≡ outside_at m.0 (inside.history ++ es) (m.0.mine ++ positions_from (length inside.history) es)
        grown_left es grown =
            let h : w.history ≡ inside.history ++ es = ap (λ (v : NodeView V). v.history) grown ∙ ap (λ (v : NodeView V). v.history ++ es) inside.found in
            let added : drop (length inside.history) w.history ≡ es = ap (drop (length inside.history)) h ∙ drop_front inside.history es in
            left
            ∙ (ap (λ (x : Hand V). outside_at x.0 w.history (mine_with x.0 w.history)) inside.inside
            ∙ (λ i. outside_at m.0 (h i) (m.0.mine ++ positions_from (length inside.history) (added i))))

        grown_node : (es : List Change) → w ≡ with_changes node es → IsNode accepts w → IsNode accepts (node_at start (inside.history ++ es))
        grown_node es grown lawful =
            subst (IsNode accepts) (grown ∙ ap (λ (v : NodeView V). with_changes v es) inside.found) lawful

        pub grown_stays : IsGrown node w → IsNode accepts w → Stays accepts (shared_node table start) (seat_view_of old m.0) (seat_view_of new o.0)
        grown_stays g lawful = own_stays g.changes (grown_left g.changes g.grown) (grown_node g.changes g.grown lawful)

        same_waits : w ≡ node → SeatWaits accepts (shared_node table start) (seat_view_of old m.0) (seat_view_of new o.0)
        same_waits is =
            let none : w ≡ with_changes node [] = with_no_change node w is in
            let is_new = own_new [] (grown_left [] none) in
            subst (Waits (rules_shared accepts) (seen_by (shared_node table start) (seat_view_of old m.0)))
            (sym (is_new ∙ (λ i. known (append-nil inside.history i) (append-nil m.0.mine i)))) others_came

        pub failed_waits : {A E : Type 0} (result : Result A E) → OnErr result (w ≡ node) → OnErr result (SeatWaits accepts (shared_node table start) (seat_view_of old m.0) (seat_view_of new o.0))
        failed_waits (Ok a) is = tt
        failed_waits (Err e) is = same_waits is

        -- what is so of the node where memory ran out is so of what the seat then has seen
        pub failed_at : {A E : Type 0} (P : NodeView V → Type 0) (result : Result A E) → OnErr result (w ≡ node) → OnErr result (P node) →
            OnErr result (P (seen_by (shared_node table start) (seat_view_of new o.0)).node)
        failed_at P (Ok a) is so = tt
        failed_at P (Err e) is so =
            let is_new = own_new [] (grown_left [] (with_no_change node w is)) in
            let same_node : (seen_by (shared_node table start) (seat_view_of new o.0)).node ≡ node =
            ap (λ (s : Seen V). s.node) is_new ∙ (ap (λ (h : List Change). node_at start h) (append-nil inside.history) ∙ sym inside.found) in
            subst P (sym same_node) so

        pub puts : {E : Type 0} (bytes : List ℕ) (result : Result PutAnswer E) → IfOk result (λ a. a ≡ put_answer accepts node bytes) → OnOk result (w ≡ with_changes node (put_changes accepts node bytes)) →
            IfOk result (SeatPuts accepts (shared_node table start) (seat_view_of old m.0) bytes (seat_view_of new o.0))
        puts bytes (Ok a) answer grown = record {
          reached = reached;
          waits = others_came;
          answers = answer ∙ ap (λ (v : NodeView V). put_answer accepts v bytes) inside.found;
          grown = own_new (put_changes accepts reached.node bytes) (grown_left (put_changes accepts reached.node bytes)
              (grown ∙ ap (λ (v : NodeView V). with_changes node (put_changes accepts v bytes)) inside.found));
        }
        puts bytes (Err e) answer grown = tt

        pub makes : {E : Type 0} (others : List (List ℕ)) (time : ℕ) (payload : List ℕ) (result : Result MakeAnswer E) → IfOk result (λ a. IsMaking accepts node others time payload a w) →
            IfOk result (SeatMakes accepts (shared_node table start) (seat_view_of old m.0) others time payload (seat_view_of new o.0))
        makes others time payload (Ok a) made_one =
            let making : IsMaking accepts reached.node others time payload a w = subst (λ (v : NodeView V). IsMaking accepts v others time payload a w) inside.found made_one in
            let es : List Change = make_changes reached.node others time payload making.sig in
            let grown : w ≡ with_changes node es = making.grown ∙ ap (λ (v : NodeView V). with_changes v es) (sym inside.found) in
            let is_new = own_new es (grown_left es grown) in
            record {
              reached = reached;
              waits = others_came;
              making = record {
                sig = making.sig;
                sized = making.sized;
                signed = making.signed;
                answers = making.answers;
                grown = ap (λ (s : Seen V). s.node) is_new;
              };
              positions = ap (λ (s : Seen V). s.positions) is_new;
            }
        makes others time payload (Err e) made_one = tt

        pub makes_next : {E : Type 0} (time : ℕ) (result : Result (Option MakeAnswer) E) → IfOk result (λ next. MakesNext accepts node time next w) →
            IfOk result (SeatMakesNext accepts (shared_node table start) (seat_view_of old m.0) time (seat_view_of new o.0))
        makes_next time (Ok next) makes =
            let g : IsGrown node w = next_changes node w time next makes in
            let is_new = own_new g.changes (grown_left g.changes g.grown) in
            let same_node : w ≡ (seen_by (shared_node table start) (seat_view_of new o.0)).node =
            g.grown ∙ (ap (λ (v : NodeView V). with_changes v g.changes) inside.found ∙ sym (ap (λ (s : Seen V). s.node) is_new)) in
            record {
              reached = reached;
              waits = others_came;
              more = g.changes;
              grown = is_new;
              makes = subst (MakesNext accepts reached.node time next) same_node (subst (λ (v : NodeView V). MakesNext accepts v time next w) inside.found makes);
            }
        makes_next time (Err e) makes = tt

        pub publishes : (len : ℕ) (share : Share) (marked : ℕ) → marked ≡ publish_answer node len share → w ≡ with_changes node (publish_changes node len share) →
            SeatPublishes accepts (shared_node table start) (seat_view_of old m.0) len share (seat_view_of new o.0) marked
        publishes len share marked answer grown = record {
          reached = reached;
          waits = others_came;
          answers = answer ∙ ap (λ (v : NodeView V). publish_answer v len share) inside.found;
          grown = own_new (publish_changes reached.node len share) (grown_left (publish_changes reached.node len share)
              (grown ∙ ap (λ (v : NodeView V). with_changes node (publish_changes v len share)) inside.found));
        }

      -- a call that put events to the node while the seat was inside, in the end as n'
      module _ (n' : Hand V) (w : NodeView V) (adds : AddsInside n n' node w) (left : o ≡ outside_at n'.0 n'.0.seen n'.0.mine) where
        took_left : o ≡ outside_at m.0 (inside.history ++ adds.more) (m.0.mine ++ positions_from (length inside.history) adds.more)
        took_left =
            left
            ∙ (ap (λ (x : Hand V). outside_at x.0 x.0.seen x.0.mine) adds.inside
            ∙ ap (λ (x : Hand V). outside_at x.0 (x.0.seen ++ adds.more) (x.0.mine ++ positions_from (length x.0.seen) adds.more)) inside.inside)

        took_node : w ≡ with_changes reached.node adds.more
        took_node = adds.grown ∙ ap (λ (v : NodeView V). with_changes v adds.more) inside.found

        pub took_stays : IsNode accepts w → Stays accepts (shared_node table start) (seat_view_of old m.0) (seat_view_of new o.0)
        took_stays lawful = own_stays adds.more took_left (subst (IsNode accepts) took_node lawful)

        takes : (rows : List Row) (counts : Taken) → taking_rows accepts node rows ≡ taking_of w counts →
            SeatTakes accepts (shared_node table start) (seat_view_of old m.0) rows (seat_view_of new o.0) counts
        takes rows counts is = record {
          reached = reached;
          waits = others_came;
          more = adds.more;
          taken = ap (λ (v : NodeView V). taking_rows accepts v rows) (sym inside.found) ∙ (is ∙ ap (λ (v : NodeView V). taking_of v counts) took_node);
          grown = own_new adds.more took_left;
        }

        pub takes_all : {E : Type 0} (rows : List Row) (result : Result Taken E) → IfOk result (λ t. taking_rows accepts node rows ≡ taking_of w t) →
            IfOk result (SeatTakes accepts (shared_node table start) (seat_view_of old m.0) rows (seat_view_of new o.0))
        takes_all rows (Ok counts) is = takes rows counts is
        takes_all rows (Err e) is = tt

        pub takes_first : {E : Type 0} (rows : List Row) (result : Result Taken E) → OnErr result (TakesFirst accepts node rows w) →
            OnErr result (SeatTakesFirst accepts (shared_node table start) (seat_view_of old m.0) rows (seat_view_of new o.0))
        takes_first rows (Ok counts) first = tt
        takes_first rows (Err e) t = record {
          first = t.first;
          next = t.next;
          rest = t.rest;
          whole = t.whole;
          counts = t.counts;
          takes = takes t.first t.counts t.taken;
          full = subst (λ (v : NodeView V). WouldAccept accepts v (spelling t.next)) (took_node ∙ sym (ap (λ (x : Seen V). x.node) (own_new adds.more took_left))) t.full;
        }

  -- a node that has one holder is left by a look at it
  pub looked_at : (v w : NodeView V) → Waits (rules_alone accepts) (seen_whole v) (seen_whole w) → w ≡ v
  looked_at v w waits = waits_alone V accepts v w waits

module _ {V : Type 0} (table old : TableId) (start : NodeView V) (v : View V) (p : SharedNode V) (s : SeatView V) (place_is : shared_node table start ≡ p) (stand_is : seat_view_of old v ≡ s) where
  -- a seat of a shared node, by what they are inside
  pub of_inside : IsOf p s → IsOf (shared_node table start) (seat_view_of old v)
  of_inside of = subst (λ (q : SharedNode V). IsOf q (seat_view_of old v)) (sym place_is) (subst (IsOf p) (sym stand_is) of)

  pub same_table : IsOf p s → old ≡ table
  same_table of = (of_inside of).table

  pub same_start : IsOf p s → v.start ≡ Some start
  same_start of = (of_inside of).start

  -- and what is so of them inside, as callers see them
  pub as_seen : (R : SharedNode V → SeatView V → Type 0) → R (shared_node table start) (seat_view_of old v) → R p s
  as_seen R is = subst (λ (q : SharedNode V). R q s) place_is (subst (R (shared_node table start)) stand_is is)

  -- what was found in what the seat had seen
  pub found_seen : (found : Found) → IsFoundBy (seen_by p s).node found → IsFoundBy (node_at start v.seen) found
  found_seen found speaks =
      subst (λ (q : SharedNode V). IsFoundBy (seen_by q (seat_view_of old v)).node found) (sym place_is) (subst (λ (x : SeatView V). IsFoundBy (seen_by p x).node found) (sym stand_is) speaks)
