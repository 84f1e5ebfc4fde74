-- What is so once two seats are one, and in the end
use Rattle.std.proofs.Common.{◌≡◌, inl, inr, ℕ, ◌≤◌, Bool, true, false, cond, nat_le, List, ◌++◌, length, Option, sym, ap, ◌∙◌, subst, arith}
use Rattle.std.proofs.lemmas.Bool.{cases_lt}
use mathlib.Core.Option.{some}
use lib.ListN.{get_elem?}
use Rattle.atomic_table.specs.Seated.{TableId}
use Rattle.atomic_table.specs.Table.{State}
use Rattle.hg_model.specs.Orders.{IsPrefix}
use Rattle.hg_life.specs.History.{Change}
use Rattle.hg_life.specs.NodeView.{NodeView, IsNode}
use Rattle.hg_life.specs.Signing.{Accepts}
use Rattle.hg_board.specs.Positions.{times, once_from, AreBelow}
use Rattle.hg_board.specs.declared.view.View.{View}
use Rattle.hg_board.specs.Table.{HasSeen, Orderly, all_parts, node_at}
use Rattle.hg_board.specs.Steps.{Hand, HasCompared, joined, longer}
use Rattle.hg_board.specs.Seats.{IsOf, shared_node, seat_view_of}
use Rattle.hg_board.specs.Turns.{Enters}
use Rattle.hg_board.specs.Calls.{Absorbs, IsWhole}
use Rattle.hg_board.proofs.PositionLaws.{once_within, times_past}
use Rattle.hg_board.proofs.PrefixLaws.{longest, prefix_length, prefix_self, prefix_whole}
use Rattle.hg_board.proofs.MoveLaws.{ends}
use Rattle.hg_board.proofs.TurnLaws.{same_some}

both_begin : (xs ys : List Change) (b : Bool) → IsPrefix (cond b xs ys) (cond b ys xs) → IsPrefix xs (cond b ys xs) × IsPrefix ys (cond b ys xs)
both_begin xs ys true first = (first, prefix_self ys)
both_begin xs ys false first = (prefix_self xs, first)

module _ {V : Type 0} (accepts : V → Accepts) (start : NodeView V) where
  abbrev Joined : View V → View V → Hand V → Type 0
  Joined v w n = n.0 ≡ joined v w

  pub absorbs : (table old other new : TableId) (v w : View V) (n o : Hand V) → IsOf (shared_node table start) (seat_view_of old v) → new ≡ old → Joined v w n → HasCompared accepts n o →
      Absorbs accepts (shared_node table start) (seat_view_of old v) (seat_view_of other w) (seat_view_of new o.0)
  absorbs table old other new v w n o of same is told =
      let size = longest v.seen w.seen in
      let t : HasCompared accepts (joined v w, n.1) o = subst (λ (x : View V). HasCompared accepts (x, n.1) o) is told in
      let first = both_begin v.seen w.seen (nat_le (length v.seen) (length w.seen)) (t.told size.other) in
      let seen : o.0.seen ≡ longer v.seen w.seen = ap (λ (x : Hand V). x.0.seen) t.cleared in
      let mine : o.0.mine ≡ v.mine ++ w.mine = ap (λ (x : Hand V). x.0.mine) t.cleared in
      let begin : o.0.start ≡ v.start = ap (λ (x : Hand V). x.0.start) t.cleared in
      let from : t.start ≡ start = same_some t.start start (sym t.from ∙ of.start) in
      record {
        of = record { table = same ∙ of.table; start = begin ∙ of.start };
        parts = ap (λ (x : Hand V). x.0.parts) t.cleared;
        mine = mine;
        once = λ q. subst (λ (ps : List ℕ). times q ps ≤ 1) (sym mine) (t.once q);
        within = subst (λ (x : Hand V). AreBelow (length x.0.seen) x.0.mine) (sym t.cleared) t.within;
        seen = seen;
        begins = subst (IsPrefix v.seen) (sym seen) first.0;
        ends = subst (IsPrefix w.seen) (sym seen) first.1;
        node = subst (λ (h : List Change). IsNode accepts (node_at start h)) (sym seen) (subst (λ (x : NodeView V). IsNode accepts (node_at x (longer v.seen w.seen))) from t.node);
      }

  -- a seat whose changes are all since the start has seen the history
  seen_all : (seen history : List Change) (mine : List ℕ) → HasSeen start seen mine → IsPrefix seen history → ((q : ℕ) → times q mine ≡ once_from (length start.history) (length history) q) → history ≡ seen
  seen_all seen history mine knows first all = elim (cases_lt (length seen) (length history)) [
    | inl low ↦
        let begun : length start.history ≤ length seen = prefix_length start.history seen knows.begun in
        let none : times (length seen) mine ≡ 0 = times_past (length seen) (length seen) mine knows.within (omega arith) in
        absurd (omega (arith, none, all (length seen), once_within (length start.history) (length history) (length seen) begun low))
    | inr past ↦ prefix_whole seen history first (omega (arith, past))
  ]

  pub whole : (m n : Hand V) (node : NodeView V) (count : ℕ) → Enters accepts start m n node count → m.0.parts ≡ all_parts → (table old : TableId) (s : State (Option (NodeView V)) (View V)) → Orderly accepts start s →
      (id : ℕ) → get_elem? s.views id ≡ some n.0 → IsWhole (shared_node table start) (seat_view_of old m.0) node
  whole m n node count inside every table old s o id at =
      let all : (q : ℕ) → times q m.0.mine ≡ once_from (length start.history) (length inside.history) q =
      subst (λ (x : Hand V). x.0.parts ≡ all_parts → (q : ℕ) → times q x.0.mine ≡ once_from (length start.history) (length x.0.seen) q) inside.inside
      (ends accepts start s o id n.0 at (ap (λ (x : Hand V). x.0.hold) inside.inside)) every in
      let same : inside.history ≡ m.0.seen = seen_all m.0.seen inside.history m.0.mine inside.knows inside.seen all in
      record {
        seen = inside.found ∙ ap (λ (h : List Change). node_at start h) same;
        later = inside.knows.begun;
        all = subst (λ (h : List Change). (q : ℕ) → times q m.0.mine ≡ once_from (length start.history) (length h) q) same all;
      }
