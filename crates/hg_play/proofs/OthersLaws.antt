-- What a call through a seat leaves, where others only mark
use Rattle.std.proofs.Common.{◌≡◌, ℕ, suc, ◌+◌, ◌<◌, List, [], ◌∷◌, ◌++◌, length, map, Some, slice_get, sym, refl, ap, ◌∙◌, subst, append_assoc, arith}
use Rattle.std.proofs.lemmas.List.{append-nil, length-append}
use Rattle.hg_model.specs.declared.row.Row.{Row}
use Rattle.hg_life.specs.declared.answers.PutAnswer.{PutAnswer}
use Rattle.hg_life.specs.declared.answers.MakeAnswer.{MakeAnswer}
use Rattle.hg_model.specs.Held.{lacking}
use Rattle.hg_model.specs.Graph.{HasDistinctNames}
use Rattle.hg_life.specs.Signing.{accepts_by}
use Rattle.hg_life.specs.Spelling.{spelling}
use Rattle.hg_life.specs.History.{Change}
use Rattle.hg_life.specs.History.Change.{Took, Made, Marked}
use Rattle.hg_life.specs.NodeView.{NodeView, node_rows, with_changes}
use Rattle.hg_life.specs.Calls.{make_changes, put_answer, put_changes}
use Rattle.hg_gossip.specs.declared.gossip.Taken.{Taken}
use Rattle.hg_gossip.specs.Gossip.{none_taken}
use Rattle.hg_gossip.specs.Nodes.{Taking, taking, taking_of}
use Rattle.hg_gossip.specs.Holding.{Seen, positions_from, with_others, with_own}
use Rattle.hg_board.specs.Positions.{times}
use Rattle.hg_board.specs.Seats.{SharedNode, SeatView, seen_by}
use Rattle.hg_board.specs.Calls.{SeatMakes, SeatPuts, SeatWaits, Stays}
use Rattle.hg_board.specs.Taking.{AreSpelled, SeatTakes}
use Rattle.hg_board.proofs.OneTurnLaws.{turns_take_each}
use Rattle.hg_board.proofs.PositionLaws as positions
use Rattle.hg_board.proofs.PrefixLaws.{prefix_length}
use Rattle.hg_world.specs.World.{Secrets}
use Rattle.hg_world.specs.Steps.{making_at, node_made, node_put, putting_at}
use Rattle.hg_world.proofs.NodeLaws.{makes}
use Rattle.hg_crowd.specs.Crowd.{IsMark, IsSeat, IsStill, OthersMark}
use Rattle.hg_crowd.proofs.MarkLaws.{get_behind, get_front}
use Rattle.hg_play.specs.Alike.{AreAlike}
use Rattle.hg_play.specs.Through.{node_seen}
use Rattle.hg_play.proofs.AlikeLaws.{added, rows_changed, stay_alike, taking_alike}

pub alike_back : (v u : NodeView Secrets) → AreAlike v u → AreAlike u v
alike_back v u alike = record { start = sym alike.start; rows = sym alike.rows }

pub alike_both : (v u t : NodeView Secrets) → AreAlike v u → AreAlike u t → AreAlike v t
alike_both v u t a b = record { start = a.start ∙ b.start; rows = a.rows ∙ b.rows }

pub alike_same : (v u : NodeView Secrets) → v ≡ u → AreAlike v u
alike_same v u same = record { start = ap (λ (w : NodeView Secrets). w.start) same; rows = ap (λ (w : NodeView Secrets). node_rows w) same }

-- no position before the first stands in those that go on from it
times_before : (n q : ℕ) (es : List Change) → q < n → times q (positions_from n es) ≡ 0
times_before n q [] before = positions.times_none q
times_before n q (e ∷ es) before =
    omega (arith, positions.times_cons q n (positions_from (suc n) es), positions.times_apart q n (λ e. let same : n ≡ q = e in omega (arith, same, before)), times_before (suc n) q es (omega arith))

-- marks add no row
marks_add_none : (es : List Change) → ((k : ℕ) → k < length es → IsMark es k) → added es ≡ []
marks_add_none [] marks = refl
marks_add_none (Took row ∷ es) marks = absurd (let m = marks 0 (omega arith) in let is : Some (Took row) ≡ Some (Marked m.0 m.1) = m.2 in cc)
marks_add_none (Made row ∷ es) marks = absurd (let m = marks 0 (omega arith) in let is : Some (Made row) ≡ Some (Marked m.0 m.1) = m.2 in cc)
marks_add_none (Marked len share ∷ es) marks = marks_add_none es (λ k low. marks (suc k) (omega arith))

-- through a seat: others' changes, and then those of its own call
record IsCalled (old new : SeatView Secrets) (others own : List Change) : Type 0 where
  pub seen : new.seen ≡ old.seen ++ others ++ own
  pub mine : new.mine ≡ old.mine ++ positions_from (length (old.seen ++ others)) own

-- after a call: the seat, which is the same still; and that others only marked is known of before where it is known of after
pub record IsAfter (p : SharedNode Secrets) (old new : SeatView Secrets) : Type 0 where
  pub seat : IsSeat accepts_by p new
  pub still : IsStill old new
  pub back : OthersMark p new → OthersMark p old

module _ (p : SharedNode Secrets) (old new : SeatView Secrets) (others own : List Change) (called : IsCalled old new others own) where
  whole : new.seen ≡ old.seen ++ (others ++ own)
  whole = called.seen ∙ append_assoc old.seen others own

  long : length (old.seen ++ others) ≡ length old.seen + length others
  long = length-append old.seen others

  -- the seat's own positions, before those of the call
  times_mine : (q : ℕ) → q < length (old.seen ++ others) → times q old.mine ≡ 0 → times q new.mine ≡ 0
  times_mine q low none =
      omega (arith, ap (times q) called.mine, positions.times-append q old.mine (positions_from (length (old.seen ++ others)) own), none, times_before (length (old.seen ++ others)) q own low)

  others_back : OthersMark p new → OthersMark p old
  others_back mark q low high none =
      let m = mark q low (omega (arith, high, ap length whole, length-append old.seen (others ++ own))) (times_mine q (omega (arith, high, long)) none) in
      (m.0, m.1, sym (get_front old.seen (others ++ own) q high) ∙ (ap (λ (h : List Change). slice_get h q) (sym whole) ∙ m.2))

  others_add_none : IsSeat accepts_by p old → OthersMark p new → added others ≡ []
  others_add_none seat mark = marks_add_none others (λ k low.
      let q : ℕ = length old.seen + k in
      let here : q < length (old.seen ++ others) = omega (arith, long, low) in
      let m = mark q (omega (arith, prefix_length p.start.history old.seen seat.begun)) (omega (arith, here, ap length called.seen, length-append (old.seen ++ others) own))
      (times_mine q here (positions.times_past (length old.seen) q old.mine seat.within (omega arith))) in
      (m.0, m.1, sym (get_behind old.seen others (length old.seen + k) k refl) ∙ (sym (get_front (old.seen ++ others) own q here) ∙ (ap (λ (h : List Change). slice_get h q) (sym called.seen) ∙ m.2))))

  -- what others made of the node is alike
  reached_alike : IsSeat accepts_by p old → OthersMark p new → AreAlike (with_changes (node_seen p old) others) (node_seen p old)
  reached_alike seat mark = record {
    start = refl;
    rows = rows_changed (node_seen p old) others ∙ (ap (λ (G : List Row). node_rows (node_seen p old) ++ G) (others_add_none seat mark) ∙ append-nil (node_rows (node_seen p old)));
  }

  after : IsSeat accepts_by p old → Stays accepts_by p old new → IsAfter p old new
  after seat stays = record {
    seat = record {
      of = stays.of;
      begun = stays.begun;
      within = stays.within;
      node = stays.node;
    };
    still = record {
      same = stays.of.table ∙ sym seat.of.table;
      start = stays.of.start ∙ sym seat.of.start;
      parts = stays.parts;
      seen = (others ++ own, whole);
    };
    back = others_back;
  }

-- bytes were put through a seat
module _ (p : SharedNode Secrets) (old new : SeatView Secrets) (bytes : List ℕ) (answer : PutAnswer) (puts : SeatPuts accepts_by p old bytes new answer) where
  abbrev put_others : List Change
  put_others = puts.waits.others

  put_grown : seen_by p new ≡ with_own (with_others (seen_by p old) put_others) (put_changes accepts_by (with_changes (node_seen p old) put_others) bytes)
  put_grown = puts.grown ∙ ap (λ (s : Seen Secrets). with_own s (put_changes accepts_by s.node bytes)) puts.waits.later

  put_called : IsCalled old new put_others (put_changes accepts_by (with_changes (node_seen p old) put_others) bytes)
  put_called = record { seen = ap (λ (s : Seen Secrets). s.node.history) put_grown; mine = ap (λ (s : Seen Secrets). s.positions) put_grown }

  pub put_after : IsSeat accepts_by p old → Stays accepts_by p old new → IsAfter p old new
  put_after = after p old new put_others (put_changes accepts_by (with_changes (node_seen p old) put_others) bytes) put_called

  pub put_told : IsSeat accepts_by p old → OthersMark p new → (answer ≡ putting_at (node_seen p old) bytes) × AreAlike (node_seen p new) (node_put (node_seen p old) bytes)
  put_told seat mark =
      let u : NodeView Secrets = with_changes (node_seen p old) put_others in
      let alike = stay_alike u (node_seen p old) (reached_alike p old new put_others (put_changes accepts_by u bytes) put_called seat mark) in
      let put = alike.put bytes in (
        puts.answers ∙ (ap (λ (s : Seen Secrets). put_answer accepts_by s.node bytes) puts.waits.later ∙ put.0),
        alike_both (node_seen p new) (node_put u bytes) (node_put (node_seen p old) bytes) (alike_same (node_seen p new) (node_put u bytes) (ap (λ (s : Seen Secrets). s.node) put_grown)) put.1,
      )

-- an event was made through a seat, or refused
module _ (p : SharedNode Secrets) (old new : SeatView Secrets) (names : List (List ℕ)) (time : ℕ) (payload : List ℕ) (answer : MakeAnswer) (made : SeatMakes accepts_by p old names time payload new answer) where
  abbrev make_others : List Change
  make_others = made.waits.others

  abbrev make_own : List Change
  make_own = make_changes (with_changes (node_seen p old) make_others) names time payload made.making.sig

  make_called : IsCalled old new make_others make_own
  make_called = record {
    seen = ap (λ (v : NodeView Secrets). v.history) made.making.grown
        ∙ ap (λ (s : Seen Secrets). s.node.history ++ make_changes s.node names time payload made.making.sig) made.waits.later;
    mine = made.positions ∙ ap (λ (s : Seen Secrets). s.positions ++ positions_from (length s.node.history) (make_changes s.node names time payload made.making.sig)) made.waits.later;
  }

  pub make_after : IsSeat accepts_by p old → Stays accepts_by p old new → IsAfter p old new
  make_after = after p old new make_others make_own make_called

  pub make_told : IsSeat accepts_by p old → OthersMark p new → (answer ≡ making_at (node_seen p old) names time payload) × AreAlike (node_seen p new) (node_made (node_seen p old) names time payload)
  make_told seat mark =
      let u : NodeView Secrets = with_changes (node_seen p old) make_others in
      let alike = stay_alike u (node_seen p old) (reached_alike p old new make_others make_own make_called seat mark) in
      let of = alike.made names time payload in
      let is = makes u made.reached.node (node_seen p new) names time payload answer (ap (λ (s : Seen Secrets). s.node) made.waits.later) made.making in (
        is.0 ∙ of.0,
        alike_both (node_seen p new) (node_made u names time payload) (node_made (node_seen p old) names time payload) (alike_same (node_seen p new) (node_made u names time payload) is.1) of.1,
      )

-- events came through a seat in one turn
module _ (p : SharedNode Secrets) (old new : SeatView Secrets) (rows : List Row) (counts : Taken) (takes : SeatTakes accepts_by p old rows new counts) where
  abbrev take_others : List Change
  take_others = takes.waits.others

  take_grown : seen_by p new ≡ with_own (with_others (seen_by p old) take_others) takes.more
  take_grown = takes.grown ∙ ap (λ (s : Seen Secrets). with_own s takes.more) takes.waits.later

  take_called : IsCalled old new take_others takes.more
  take_called = record { seen = ap (λ (s : Seen Secrets). s.node.history) take_grown; mine = ap (λ (s : Seen Secrets). s.positions) take_grown }

  pub take_after : IsSeat accepts_by p old → Stays accepts_by p old new → IsAfter p old new
  take_after = after p old new take_others takes.more take_called

  -- of a node alike, what is counted and left is that of the bytes of those that it lacked, one after the other
  pub take_told : HasDistinctNames rows → AreSpelled rows → IsSeat accepts_by p old → OthersMark p new → (v : NodeView Secrets) → AreAlike v (node_seen p old) →
      (counts ≡ (taking accepts_by v (map spelling (lacking (node_rows v) rows))).counts) × AreAlike (taking accepts_by v (map spelling (lacking (node_rows v) rows))).node (node_seen p new)
  take_told distinct spelled seat mark v alike =
      let u : NodeView Secrets = with_changes (node_seen p old) take_others in
      let r : NodeView Secrets = takes.reached.node in
      let events : List (List ℕ) = map spelling (lacking (node_rows v) rows) in
      let both : AreAlike v u = alike_both v (node_seen p old) u alike (alike_back u (node_seen p old) (reached_alike p old new take_others takes.more take_called seat mark)) in
      let near : AreAlike v r = subst (AreAlike v) (sym (ap (λ (s : Seen Secrets). s.node) takes.waits.later)) both in
      let ended : taking_of (with_changes r takes.more) counts ≡ taking accepts_by r events =
      sym takes.taken ∙ (turns_take_each Secrets accepts_by r rows distinct spelled ∙ ap (λ (G : List Row). taking accepts_by r (map spelling (lacking G rows))) (sym near.rows)) in
      let alikes = taking_alike v r none_taken events near in (
        ap (λ (t : Taking Secrets). t.counts) ended ∙ sym alikes.0,
        alike_both (taking accepts_by v events).node (taking accepts_by r events).node (node_seen p new) alikes.1
            (alike_same (taking accepts_by r events).node (node_seen p new) (sym (ap (λ (t : Taking Secrets). t.node) ended) ∙ sym (ap (λ (s : Seen Secrets). s.node) takes.grown))),
      )

-- a call through a seat added nothing
module _ (p : SharedNode Secrets) (old new : SeatView Secrets) (waits : SeatWaits accepts_by p old new) where
  wait_called : IsCalled old new waits.others []
  wait_called = record {
    seen = ap (λ (s : Seen Secrets). s.node.history) waits.later ∙ sym (append-nil (old.seen ++ waits.others));
    mine = ap (λ (s : Seen Secrets). s.positions) waits.later ∙ sym (append-nil old.mine);
  }

  pub wait_after : IsSeat accepts_by p old → Stays accepts_by p old new → IsAfter p old new
  wait_after = after p old new waits.others [] wait_called

  pub wait_told : IsSeat accepts_by p old → OthersMark p new → AreAlike (node_seen p new) (node_seen p old)
  wait_told seat mark =
      let u : NodeView Secrets = with_changes (node_seen p old) waits.others in
      alike_both (node_seen p new) u (node_seen p old) (alike_same (node_seen p new) u (ap (λ (s : Seen Secrets). s.node) waits.later))
      (reached_alike p old new waits.others [] wait_called seat mark)
