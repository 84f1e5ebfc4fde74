-- What a call leaves, once the seat has come in and gone out
use Rattle.std.proofs.Common.{◌≡◌, ℕ, ◌∙◌, List, length, Result, ap}
use Rattle.std.specs.Prelude.{IfOk, OnOk, OnErr}
use Rattle.atomic_table.specs.Seated.{TableId}
use Rattle.hg_model.specs.declared.row.Row.{Row}
use Rattle.hg_life.specs.declared.answers.PutAnswer.{PutAnswer}
use Rattle.hg_life.specs.declared.answers.PutAnswer.TheVariants.{Accepted}
use Rattle.hg_life.specs.NodeView.{NodeView, IsNode, node_rows, with_changes}
use Rattle.hg_life.specs.Calls.{put_answer, put_changes}
use Rattle.hg_life.specs.Signing.{Accepts}
use Rattle.hg_gossip.specs.declared.gossip.Taken.{Taken}
use Rattle.hg_gossip.specs.Nodes.{taking_of}
use Rattle.hg_gossip.specs.Holding.{WouldTake}
use Rattle.hg_board.specs.Seats.{IsOf, SharedNode, SeatView, seat_view_of, seen_by, shared_node}
use Rattle.hg_board.specs.Calls.{SeatPuts, SeatWaits, Stays, rules_shared}
use Rattle.hg_board.specs.Steps.{Hand}
use Rattle.hg_board.specs.Turns.{Enters, mine_with, outside_at}
use Rattle.hg_board.specs.Taking.{AddsInside, SeatTakes, SeatTakesFirst, TakesFirst, taking_rows}
use Rattle.hg_board.proofs.SeatLaws.{as_seen, failed_at, failed_waits, grown_stays, of_inside, put_grown, puts, read_seen, read_stays, read_waits, takes_all, takes_first, took_stays}

-- after a read: what was read of the node is so of what the seat then has seen
pub record HasRead {V : Type 0} (accepts : V → Accepts) (p : SharedNode V) (old new : SeatView V) (node : NodeView V) : Type 0 where
  pub stays : Stays accepts p old new
  pub waits : SeatWaits accepts p old new
  pub same : node ≡ (seen_by p new).node

-- after bytes were put
pub record HasPut {V E : Type 0} (accepts : V → Accepts) (p : SharedNode V) (old new : SeatView V) (bytes : List ℕ) (result : Result PutAnswer E) : Type 0 where
  pub stays : Stays accepts p old new
  pub ok : IfOk result (SeatPuts accepts p old bytes new)
  pub err : OnErr result (SeatWaits accepts p old new)
  pub free : OnErr result (WouldTake (rules_shared accepts) (seen_by p new) bytes)

-- after events were taken
pub record HasTakenRows {V E : Type 0} (accepts : V → Accepts) (p : SharedNode V) (old new : SeatView V) (rows : List Row) (result : Result Taken E) : Type 0 where
  pub stays : Stays accepts p old new
  pub ok : IfOk result (SeatTakes accepts p old rows new)
  pub err : OnErr result (SeatTakesFirst accepts p old rows new)

module _ {V : Type 0} (accepts : V → Accepts) {start : NodeView V} {m n : Hand V} {node : NodeView V} {count : ℕ} {table old : TableId} {p : SharedNode V} {s : SeatView V}
    (place_is : shared_node table start ≡ p) (stand_is : seat_view_of old m.0 ≡ s) (is_of : IsOf p s) (inside : Enters accepts start m n node count) where
  of_seat : IsOf (shared_node table start) (seat_view_of old m.0)
  of_seat = of_inside table old start m.0 p s place_is stand_is is_of

  seen : (R : SharedNode V → SeatView V → Type 0) → R (shared_node table start) (seat_view_of old m.0) → R p s
  seen R is = as_seen table old start m.0 p s place_is stand_is R is

  -- the node began as the one that was shared
  pub start_inside : node.start ≡ p.start.start
  start_inside = ap (λ (v : NodeView V). v.start) inside.found ∙ ap (λ (q : SharedNode V). q.start.start) place_is

  module _ {new : TableId} {o : Hand V} (same : new ≡ old) where
    pub reads_at : o ≡ outside_at n.0 n.0.seen n.0.mine → HasRead accepts p s (seat_view_of new o.0) node
    reads_at left = record {
      stays = seen (λ q t. Stays accepts q t (seat_view_of new o.0)) (read_stays accepts start m n node count inside table old new of_seat same o left);
      waits = seen (λ q t. SeatWaits accepts q t (seat_view_of new o.0)) (read_waits accepts start m n node count inside table old new of_seat same o left);
      same = read_seen accepts start m n node count inside table old new of_seat same o left p place_is;
    }

    pub puts_at : {E : Type 0} (w : NodeView V) (bytes : List ℕ) (result : Result PutAnswer E) → o ≡ outside_at n.0 w.history (mine_with n.0 w.history) → IsNode accepts w →
        IfOk result (λ a. a ≡ put_answer accepts node bytes) → OnOk result (w ≡ with_changes node (put_changes accepts node bytes)) → OnErr result (w ≡ node) →
        OnErr result (put_answer accepts node bytes ≡ Accepted (length (node_rows node))) → HasPut accepts p s (seat_view_of new o.0) bytes result
    puts_at w bytes result left lawful answer ok err free = record {
      stays = seen (λ q t. Stays accepts q t (seat_view_of new o.0))
          (grown_stays accepts start m n node count inside table old new of_seat same o w left (put_grown accepts node w bytes result ok err) lawful);
      ok = seen (λ q t. IfOk result (SeatPuts accepts q t bytes (seat_view_of new o.0))) (puts accepts start m n node count inside table old new of_seat same o w left bytes result answer ok);
      err = seen (λ q t. OnErr result (SeatWaits accepts q t (seat_view_of new o.0))) (failed_waits accepts start m n node count inside table old new of_seat same o w left result err);
      free = seen (λ q t. OnErr result (WouldTake (rules_shared accepts) (seen_by q (seat_view_of new o.0)) bytes))
          (failed_at accepts start m n node count inside table old new of_seat same o w left (λ v. put_answer accepts v bytes ≡ Accepted (length (node_rows v))) result err free);
    }

    -- by a seat that was inside as n' when the last event was put
    pub takes_at : {E : Type 0} {n' : Hand V} {w : NodeView V} (rows : List Row) (result : Result Taken E) → AddsInside n n' node w → o ≡ outside_at n'.0 n'.0.seen n'.0.mine → IsNode accepts w →
        IfOk result (λ t. taking_rows accepts node rows ≡ taking_of w t) → OnErr result (TakesFirst accepts node rows w) → HasTakenRows accepts p s (seat_view_of new o.0) rows result
    takes_at {E} {n'} {w} rows result adds left lawful ok err = record {
      stays = seen (λ q t. Stays accepts q t (seat_view_of new o.0)) (took_stays accepts start m n node count inside table old new of_seat same o n' w adds left lawful);
      ok = seen (λ q t. IfOk result (SeatTakes accepts q t rows (seat_view_of new o.0))) (takes_all accepts start m n node count inside table old new of_seat same o n' w adds left rows result ok);
      err = seen (λ q t. OnErr result (SeatTakesFirst accepts q t rows (seat_view_of new o.0))) (takes_first accepts start m n node count inside table old new of_seat same o n' w adds left rows result err);
    }
