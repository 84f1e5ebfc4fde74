-- When all seats have come back: what was not done through the seat of the calls are marks
use Rattle.std.proofs.Common.{◌≡◌, ℕ, ◌+◌, ◌<◌, ◌≤◌, List, ◌++◌, length, map, get_or, sym, ap, ap₂, ◌∙◌, subst, arith}
use mathlib.Core.Logic.{dite}
use native.Mathlib.Decide.{ℕ_discrete}
use Rattle.std.proofs.lemmas.List.{get_or-map, length-map}
use Rattle.hg_model.specs.Orders.{IsPrefix}
use Rattle.hg_life.specs.Signing.{Accepts}
use Rattle.hg_life.specs.NodeView.{NodeView, node_rows}
use Rattle.hg_model.specs.declared.row.Row.{Row}
use Rattle.hg_model.specs.Links.{Link}
use Rattle.hg_model.specs.Shares.{share_fame, whole}
use Rattle.hg_history.proofs.StateLaws.{prefix_more}
use Rattle.hg_board.specs.Crews.{MarksAll}
use Rattle.hg_board.specs.Positions.{times}
use Rattle.hg_board.specs.Table.{node_at}
use Rattle.hg_board.specs.Seats.{SharedNode, SeatView}
use Rattle.hg_board.specs.Calls.{Absorbs, IsStarted, IsWhole, after_split, split_off}
use Rattle.hg_board.proofs.PrefixLaws.{prefix_length}
use Rattle.hg_board.proofs.PositionLaws.{once_within, times-append, times_past}
use Rattle.hg_crowd.specs.Crowd.{IsEnded, IsMark, IsSeat, IsStill}
use Rattle.hg_crowd.specs.Workers.{AllMark, HasAllMarks, Worked}
use Rattle.hg_crowd.specs.Laws.{IsSession, SessionsEnd, SessionsMark}
use Rattle.hg_crowd.proofs.MarkLaws.{mark_among, mark_before, mark_later, rows_stay}
use Rattle.hg_crowd.proofs.ListLaws.{some_of}

module _ {V : Type 0} (accepts : V → Accepts) (p : SharedNode V) (first called beside back last : SeatView V) (begun node : NodeView V) (started : IsStarted accepts p begun first)
    (still : IsStill (split_off first) called) (seat : IsSeat accepts p called) (worked : Worked (after_split first) beside) (absorbs : Absorbs accepts p beside called back)
    (again : Worked back last) (whole_node : IsWhole p last node) where
  from_called : IsPrefix called.seen last.seen
  from_called = prefix_more called.seen back.seen last.seen absorbs.ends again.still.seen

  -- what was not done through the seat of the calls are marks
  marks_beside : (q : ℕ) → length p.start.history ≤ q → q < length last.seen → times q called.mine ≡ 0 → IsMark last.seen q
  marks_beside q from below other =
      let beside_mine : beside.mine ≡ worked.more = worked.mine ∙ ap (λ (l : List ℕ). l ++ worked.more) started.mine in
      let mine : last.mine ≡ (worked.more ++ called.mine) ++ again.more =
      again.mine ∙ ap (λ (l : List ℕ). l ++ again.more) (absorbs.mine ∙ ap (λ (l : List ℕ). l ++ called.mine) beside_mine) in
      let from_beside : IsPrefix beside.seen last.seen = prefix_more beside.seen back.seen last.seen absorbs.begins again.still.seen in
      dite (ℕ_discrete (times q worked.more) 0)
      (λ none.
      let not_theirs : times q worked.more ≡ 0 = none in
      let once : times q last.mine ≡ 1 = whole_node.all q ∙ once_within (length p.start.history) (length last.seen) q from below in
      let split : times q last.mine ≡ (times q worked.more + times q called.mine) + times q again.more =
      ap (times q) mine ∙ (times-append q (worked.more ++ called.mine) again.more ∙ ap (λ (n : ℕ). n + times q again.more) (times-append q worked.more called.mine)) in
      mark_among last.seen again.more q again.marks (omega (arith, once, split, other, not_theirs)))
      (λ some. mark_later beside.seen last.seen q from_beside (mark_among beside.seen worked.more q worked.marks (omega (arith, some))))

  begins : length p.start.history ≤ length called.seen
  begins = prefix_length p.start.history called.seen seat.begun

  -- so are all behind what that seat has seen
  marks_behind : (q : ℕ) → length called.seen ≤ q → q < length last.seen → IsMark last.seen q
  marks_behind q past below = marks_beside q (omega (arith, begins, past)) below (times_past (length called.seen) q called.mine seat.within past)

  -- one node
  pub ended : IsEnded p called node
  ended =
      let longer : length called.seen ≤ length last.seen = prefix_length called.seen last.seen from_called in
      record {
        start = ap (λ (v : NodeView V). v.start) whole_node.seen;
        others = λ q from below other. mark_before called.seen last.seen q from_called below (marks_beside q from (omega (arith, below, longer)) other);
        rows = ap (λ (v : NodeView V). node_rows v) whole_node.seen ∙ (rows_stay p.start.start.members p.start.start.coin called.seen last.seen from_called marks_behind).0;
        later = subst (λ (v : NodeView V). IsPrefix called.seen v.history) (sym whole_node.seen) from_called;
        marks = subst (λ (v : NodeView V). (q : ℕ) → length p.start.history ≤ q → q < length v.history → times q called.mine ≡ 0 → IsMark v.history q) (sym whole_node.seen) marks_beside;
      }

  -- its marks are those that the workers' last turn made, of all that its rows decide
  marked_last : MarksAll p whole back last → HasAllMarks (node_at p.start last.seen)
  marked_last marked x famous decided =
      let n = p.start.start.members in
      let c = p.start.start.coin in
      let shorter : length called.seen ≤ length back.seen = prefix_length called.seen back.seen absorbs.ends in
      let behind : (q : ℕ) → length back.seen ≤ q → q < length last.seen → IsMark last.seen q = λ q past below. marks_behind q (omega (arith, shorter, past)) below in
      let same = rows_stay n c back.seen last.seen again.still.seen behind in
      marked x famous (sym (ap₂ (λ (G : List Row) (L : List Link). share_fame n c G L whole x) same.0 same.1) ∙ decided)

  pub ended_marked : MarksAll p whole back last → HasAllMarks node
  ended_marked marked = subst (λ (v : NodeView V). HasAllMarks v) (sym whole_node.seen) (marked_last marked)

-- the parts of a run at one node
module _ {V : Type 0} (accepts : V → Accepts) (nodes : List (NodeView V)) (shared : List (SharedNode V)) (called : List (SeatView V)) (ends : List (NodeView V)) (run : IsSession accepts nodes shared called ends) (k : ℕ)
    (p : SharedNode V) (s : SeatView V) (node : NodeView V) (inside : k < length ends) where
  placed : k < length shared
  placed = omega (arith, inside, run.whole.shared_count)

  there : k < length run.firsts
  there = omega (arith, placed, run.started.seats_count, run.started.shared_count)

  split_count : length (map split_off run.firsts) ≡ length run.firsts
  split_count = length-map run.firsts split_off

  after_count : length (map after_split run.firsts) ≡ length run.firsts
  after_count = length-map run.firsts after_split

  still_at : IsStill (split_off (get_or run.firsts k s)) (get_or called k s)
  still_at = subst (λ (t : SeatView V). IsStill t (get_or called k s)) (get_or-map split_off run.firsts k s s there) (run.calls.still.each k s s (omega (arith, there, split_count)))

  worked_at : Worked (after_split (get_or run.firsts k s)) (get_or run.calls.beside k s)
  worked_at = subst (λ (t : SeatView V). Worked t (get_or run.calls.beside k s)) (get_or-map after_split run.firsts k s s there) (run.calls.worked.each k s s (omega (arith, there, after_count)))

  started_at : IsStarted accepts (get_or shared k p) (get_or nodes k node) (get_or run.firsts k s)
  started_at = run.started.each k node p s (omega (arith, placed, run.started.shared_count))

  absorbed_at : Absorbs accepts (get_or shared k p) (get_or run.calls.beside k s) (get_or called k s) (get_or run.calls.back k s)
  absorbed_at = run.calls.absorbed.each k p s s s (omega (arith, there, after_count, run.calls.worked.count))

  back_inside : k < length run.calls.back
  back_inside = omega (arith, there, after_count, run.calls.worked.count, run.calls.absorbed.count)

  pub ended_at : IsEnded (get_or shared k p) (get_or called k s) (get_or ends k node)
  ended_at =
      ended accepts (get_or shared k p) (get_or run.firsts k s) (get_or called k s) (get_or run.calls.beside k s) (get_or run.calls.back k s) (get_or run.lasts k s) (get_or nodes k node) (get_or ends k node)
      started_at still_at (run.calls.seats.each k p s placed) worked_at absorbed_at (run.calls.again.each k s s back_inside) (run.whole.each k p s node inside)

  pub marked_at_end : AllMark shared whole run.calls.back run.lasts → HasAllMarks (get_or ends k node)
  marked_at_end marked =
      ended_marked accepts (get_or shared k p) (get_or run.firsts k s) (get_or called k s) (get_or run.calls.beside k s) (get_or run.calls.back k s) (get_or run.lasts k s) (get_or nodes k node) (get_or ends k node)
      started_at still_at (run.calls.seats.each k p s placed) worked_at absorbed_at (run.calls.again.each k s s back_inside) (run.whole.each k p s node inside) (marked.each k p s s back_inside)

-- all of them
pub sessions_end : (V : Type 0) → SessionsEnd V
sessions_end V accepts nodes shared called ends run = record {
  shared_count = run.whole.shared_count;
  called_count = omega (arith, run.calls.seats.count, run.whole.shared_count);
  each = λ k p s node inside. ended_at accepts nodes shared called ends run k p s node inside;
}

pub sessions_mark : (V : Type 0) → SessionsMark V
sessions_mark V accepts nodes shared called ends run marked k node inside =
    let p : SharedNode V = some_of shared k (omega (arith, inside, run.whole.shared_count)) in
    let s : SeatView V = some_of called k (omega (arith, inside, run.calls.seats.count, run.whole.shared_count)) in
    marked_at_end accepts nodes shared called ends run k p s node inside marked
