-- What is so of one seat after a worker's call, after a split and after it absorbed another
use Rattle.std.proofs.Common.{ℕ, ◌<◌, List, [], ◌++◌, refl, sym, ap, ◌∙◌, arith, append_assoc}
use Rattle.std.proofs.lemmas.List.{append-nil}
use Rattle.hg_model.specs.Orders.{IsPrefix}
use Rattle.hg_model.specs.Shares.{Share}
use Rattle.hg_life.specs.Signing.{Accepts}
use Rattle.hg_life.specs.History.{Change}
use Rattle.hg_life.specs.NodeView.{node_marks}
use Rattle.hg_model.specs.Fame.{mark_at}
use Rattle.hg_history.proofs.StateLaws.{marks_stay, prefix_more}
use Rattle.hg_board.specs.Table.{node_at}
use Rattle.hg_board.specs.Seats.{SharedNode, SeatView}
use Rattle.hg_board.specs.Calls.{Absorbs, Stays, after_split, split_off}
use Rattle.hg_board.specs.Crews.{MarksAll, OnlyMarks}
use Rattle.hg_board.proofs.PrefixLaws.{prefix_self}
use Rattle.hg_crowd.specs.Crowd.{IsSeat, IsStill}
use Rattle.hg_crowd.specs.Workers.{Worked}
use Rattle.hg_crowd.proofs.MarkLaws.{marks_later, marks_more, marks_of_share}

module _ {V : Type 0} where
  pub still_self : (s : SeatView V) → IsStill s s
  still_self s = record { same = refl; start = refl; parts = refl; seen = prefix_self s.seen }

  pub worked_none : (s : SeatView V) → Worked s s
  worked_none s = record { still = still_self s; more = []; mine = sym (append-nil s.mine); marks = tt }

module _ {V : Type 0} (accepts : V → Accepts) (p : SharedNode V) where
  pub seat_of_call : (s t : SeatView V) → Stays accepts p s t → IsSeat accepts p t
  seat_of_call s t stays = record { of = stays.of; begun = stays.begun; within = stays.within; node = stays.node }

  pub worked_by_call : (s t : SeatView V) (share : Share) → IsSeat accepts p s → Stays accepts p s t → OnlyMarks share s t → Worked s t
  worked_by_call s t share seat stays marks = record {
    still = record { same = stays.of.table ∙ sym seat.of.table; start = stays.of.start ∙ sym seat.of.start; parts = stays.parts; seen = stays.seen };
    more = marks.more;
    mine = marks.mine;
    marks = marks_of_share share t.seen marks.more marks.marks;
  }

  pub seat_after_split : (s : SeatView V) → IsSeat accepts p s → IsSeat accepts p (after_split s)
  seat_after_split s seat = record { of = record { table = seat.of.table; start = seat.of.start }; begun = seat.begun; within = seat.within; node = seat.node }

  pub seat_split_off : (s : SeatView V) → IsSeat accepts p s → IsSeat accepts p (split_off s)
  seat_split_off s seat = record { of = record { table = seat.of.table; start = seat.of.start }; begun = seat.begun; within = tt; node = seat.node }

  pub seat_absorbed : (s other t : SeatView V) → IsSeat accepts p s → Absorbs accepts p s other t → IsSeat accepts p t
  seat_absorbed s other t seat absorbs = record {
    of = absorbs.of;
    begun = prefix_more p.start.history s.seen t.seen seat.begun absorbs.begins;
    within = absorbs.within;
    node = absorbs.node;
  }

  -- those who worked beside each other, with a seat and one that was split off it, worked as one
  pub worked_beside : (s t other u : SeatView V) → IsSeat accepts p s → 1 < s.parts → Worked (after_split s) t → Worked (split_off s) other → Absorbs accepts p t other u → Worked s u
  worked_beside s t other u seat parts first second absorbs = record {
    still = record {
      same = absorbs.of.table ∙ sym seat.of.table;
      start = absorbs.of.start ∙ sym seat.of.start;
      parts = omega (arith, absorbs.parts, first.still.parts, second.still.parts, parts);
      seen = prefix_more s.seen t.seen u.seen first.still.seen absorbs.begins;
    };
    more = first.more ++ second.more;
    mine = absorbs.mine ∙ (ap (λ (l : List ℕ). l ++ other.mine) first.mine ∙ (ap (λ (l : List ℕ). (s.mine ++ first.more) ++ l) second.mine ∙ append_assoc s.mine first.more second.more));
    marks = marks_more u.seen first.more second.more (marks_later t.seen u.seen first.more absorbs.begins first.marks) (marks_later other.seen u.seen second.more absorbs.ends second.marks);
  }

  -- marks that a seat knows are known by one that has seen more
  pub marked_later : (s t u : SeatView V) (share : Share) → MarksAll p share s t → IsPrefix t.seen u.seen → MarksAll p share s u
  marked_later s t u share marked more x famous decided =
      let start = p.start.start in
      ap (λ (h : List Change). mark_at (node_marks (node_at p.start h)) x) more.1
      ∙ marks_stay start.members start.coin t.seen more.0 x famous (marked x famous decided)
